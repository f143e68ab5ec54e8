use Rattle.plan.specs.Contents.{contents, count}
use Rattle.planfile.specs.Writes.{record_if_known}
use Rattle.planfile.proofs.WritingSteps.{Below}
use Rattle.planfile.proofs.writing.put_handlers.Given as goal

abbrev pub invariant-loop-number : goal.invariant-loop-number
invariant-loop-number l = Below (record_if_known (contents l.plan)) (count (contents l.plan)) l.initial.buffer l.place l.number l.next l.buffer
