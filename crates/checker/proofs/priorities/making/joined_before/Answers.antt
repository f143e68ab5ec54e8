use Rattle.std.proofs.Common.{◌≡◌, ℕ, ◌+◌, ◌<◌, true, true≢false, sym, ◌∙◌, arith}
use Rattle.std.proofs.lemmas.Bool.Decides.{nat_tests}
use Rattle.plan.specs.Contents.{Contents, contents, joins}
use Rattle.plan.proofs.Facts.{sound}
use Rattle.checker.proofs.Words.{bits_none, bits_set, bits_skip}
use Rattle.checker.proofs.Listing.{joined_all}
use Rattle.checker.proofs.priorities.making.joined_before.Goals as goal
use Rattle.checker.proofs.priorities.making.joined_before.Goals.{then-joined, else-joined}

same : (p : Contents) (a b : ℕ) → joins p (a + 1) (b + 1) ≡ p.joined a b
same p a b = grind (arith, nat_tests)

pub loop-other-preserved : goal.loop-other-preserved
loop-other-preserved c =
    let p = contents c.args.plan.now in
    let few = (sound c.args.plan.now).few in
    let n = c.loop-other.other in
    let small : n < 64 = omega (arith, few, c.count-other-end.ensures) in
    let told : c.joined.result ≡ p.joined n c.args.place = c.joined.ensures ∙ same p n c.args.place in
    elim c.if-joined.branch [
      | then-joined w ↦ rw w.places-is (bits_set (λ a. p.joined a c.args.place ≡ true) n c.loop-other.places small c.loop-other.invariant (sym told ∙ w.if-joined.true))
      | else-joined w ↦ rw w.places-is (bits_skip (λ a. p.joined a c.args.place ≡ true) n c.loop-other.places small c.loop-other.invariant (λ j. true≢false (sym j ∙ sym told ∙ w.if-joined.false)))
    ]
