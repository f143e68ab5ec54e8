use Rattle.std.proofs.Common.{arith}
use Rattle.std.proofs.lemmas.Bool.Decides.{nat_tests}
use Rattle.plan.specs.Contents.{contents}
use Rattle.plan.proofs.Facts.{sound}
use Rattle.checker.proofs.Reading.{known_from, ready_told}
use Rattle.checker.proofs.choosing.ready.Goals as goal
use Rattle.checker.proofs.choosing.ready.Goals.{then-is_some, else-is_some}

pub returns-then-time_left-gt0 : goal.returns-then-time_left-gt0
returns-then-time_left-gt0 c =
    elim c.if-is_some.branch [
      | then-is_some w ↦ ready_told (contents c.args.plan.now) (sound c.args.plan.now) c.args.state.now c.args.number (known_from (contents c.args.plan.now) c.args.number (cc)) (grind (arith, nat_tests)) c.waits.result c.waits.ensures
      | else-is_some w ↦ absurd (grind arith)
    ]
