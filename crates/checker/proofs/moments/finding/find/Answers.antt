use Rattle.std.proofs.Common.{◌≡◌, ℕ, ◌+◌, ◌-◌, ◌<◌, ◌≤◌, subst, sym, ◌∙◌, arith}
use Rattle.std.proofs.lemmas.Bool.{true≢false}
use Rattle.plan.specs.Contents.{contents, at, Known}
use Rattle.plan.proofs.Facts.{sound}
use Rattle.checker.proofs.Reading.{known_test}
use Rattle.checker.proofs.Finding.{found_starts, found_rests}
use Rattle.checker.proofs.moments.finding.find.Goals as goal
use Rattle.checker.proofs.moments.finding.find.Goals.{in-Some, then-turn, else-turn, in_default}

pub loop-place-preserved : goal.loop-place-preserved
loop-place-preserved c =
    let n = c.loop-place.place in
    let few : n < 64 = omega (arith, (sound c.args.plan.now).few) in
    let back : n + 1 - 1 ≡ n = omega arith in
    let known : Known (contents c.args.plan.now) (n + 1) = (omega arith, omega arith) in
    elim c.match-handler.branch [
      | in-Some w ↦ (
          let handler_is = subst (λ (k : ℕ). w.in-Some.handler ≡ at (contents c.args.plan.now) k) back w.in-Some.ensures.value in
          let soon : w.turn_at-turn.result.ahead ≤ 18446744073709551615 = omega (arith, w.turn_at-turn.type_inv) in
          elim w.if-turn.branch [
            | then-turn v ↦
                rw (w.starters-is, v.starters-is, w.quiet-is, w.min-quiet.ensures)
                (found_starts c.loop-place.invariant few w.in-Some.handler handler_is _ _ w.turn_at-turn.ensures soon v.if-turn.true)
            | else-turn v ↦
                rw (w.starters-is, v.starters-is, w.quiet-is, w.min-quiet.ensures)
                (found_rests c.loop-place.invariant few w.in-Some.handler handler_is _ _ w.turn_at-turn.ensures soon v.if-turn.false)
          ])
      | in_default w ↦ absurd (true≢false (sym (known_test (contents c.args.plan.now) (n + 1) known) ∙ sym w.in_default.ensures.test))
    ]
