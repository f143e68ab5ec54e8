use Rattle.std.proofs.Common.{inl, inr, ⊎_elim, arith}
use native.Mathlib.Nat.{pos_of_dvd_of_pos}
use Rattle.std.proofs.lemmas.Bool.{le-leb}
use Rattle.plan.proofs.Euclid.{lcm_is, lcm_none}
use Rattle.plan.proofs.multiples.least_common_multiple.Goals as goal

pub returns-then-a-eq0 : goal.returns-then-a-eq0
returns-then-a-eq0 c =
    let is = lcm_none c.args.a c.args.b (⊎_elim inl (λ e. inr e.1) c.then-a-eq0.either) in
    record { value = rw (is, le-leb 0 c.args.limit (omega arith)); least = lcm_is c.args.a c.args.b }

pub nonzero_div-a : goal.nonzero_div-a
nonzero_div-a c = omega (arith, pos_of_dvd_of_pos c.greatest_common_divisor.ensures.greatest.0 (omega arith))

pub returns-clause-least : goal.returns-clause-least
returns-clause-least c = lcm_is c.args.a c.args.b
