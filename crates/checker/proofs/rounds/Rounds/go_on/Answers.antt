use Rattle.std.proofs.Common.{◌≡◌, ◌+◌, ◌≤◌, refl, arith}
use Rattle.std.proofs.lemmas.Result.{err_from_is_err_and}
use Rattle.plan.proofs.Facts.{sound}
use Rattle.checker.proofs.Waiting.{later_idle}
use Rattle.checker.proofs.rounds.Rounds.go_on.Goals as goal

pub returns-in_err-unit-clause-goes : goal.returns-in_err-unit-clause-goes
returns-in_err-unit-clause-goes g c =
    let p = err_from_is_err_and c.from_residual.result c.from_residual.ensures.1 in
    rw (p.1, p.2) (λ w go. rw c.in_err-unit.was at (c.unit.ensures.walks w go))

pub returns-clause-goes : goal.returns-clause-goes
returns-clause-goes g c =
    let n = c.idle_for-idle.result in
    let some : 1 ≤ n = omega (arith, c.if-idle-eq0.false) in
    let look = rw (c.into-2.ensures, c.rows.ensures) at c.see.ensures in (
      some,
      c.idle_for-idle.ensures.most,
      λ w (st, soon).
          let time : c.go_on.new.self.time ≡ c.args.self.now.moment.time + n = omega (arith, c.go_on.ensures.clock, c.into.ensures, soon) in
          later_idle _ _ _ _ _ _ w n c.go_on.ensures.of_plan refl refl refl time (sound c.args.self.now.moment.plan.now)
          (c.idle_for-idle.ensures.idle (omega (arith, some))) c.idle_for-idle.ensures.calm st some look,
    )
