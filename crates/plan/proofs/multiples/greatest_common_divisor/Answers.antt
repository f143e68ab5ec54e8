use Rattle.std.proofs.Common.{arith}
use Rattle.std.specs.Int.{IsGcd}
use Rattle.std.proofs.lemmas.Nat.Gcd.{IsGcd-from_zero, IsGcd-from_mod, same_from_IsGcd}
use Rattle.plan.proofs.Euclid.{gcd_is}
use Rattle.plan.proofs.multiples.greatest_common_divisor.Goals as goal

pub loop-y-preserved : goal.loop-y-preserved
loop-y-preserved c g h = c.loop-y.invariant g (IsGcd-from_mod _ _ g h)

pub returns : goal.returns
returns c =
    let is : IsGcd c.args.a c.args.b c.loop-y.x = c.loop-y.invariant _ (IsGcd-from_zero _ _ (omega arith)) in
    record { value = same_from_IsGcd _ _ _ _ is (gcd_is c.args.a c.args.b); greatest = is }
