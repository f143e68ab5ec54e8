use Rattle.std.proofs.Common.{◌≡◌, ◌+◌, subst, sym, arith}
use Rattle.plan.specs.Contents.{contents}
use Rattle.checker.specs.Starting.{SomebodyStarts}
use Rattle.checker.proofs.Finding.{starters_some}
use Rattle.checker.proofs.moments.Moment.calm.Goals as goal

pub returns-else-self-eq0-clause-next : goal.returns-else-self-eq0-clause-next
returns-else-self-eq0-clause-next c _ =
    let e : c.args.self.now.time + 0 ≡ c.args.self.now.time = omega arith in
    subst (SomebodyStarts (contents c.args.self.now.plan.now)) (sym e) (starters_some c.args.self.now.starting c.if-self-eq0.false)
