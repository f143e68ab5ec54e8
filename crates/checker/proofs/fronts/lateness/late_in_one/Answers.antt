use Rattle.plan.specs.Contents.{contents}
use Rattle.plan.proofs.Facts.{sound}
use Rattle.checker.proofs.Watching.{late_told}
use Rattle.checker.proofs.fronts.lateness.late_in_one.Goals as goal

pub returns-then-due : goal.returns-then-due
returns-then-due c =
    let due = c.due.ensures.0 c.if-due.true in
    late_told (contents c.args.moment.now.plan.now) c.args.moment.now.time c.args.rows.now (sound c.args.moment.now.plan.now) c.args.number c.working_in_one.result due c.working_in_one.ensures
