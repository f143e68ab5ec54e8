use Rattle.plan.specs.Contents.{contents, count}
use Rattle.planfile.specs.Files.{record_if_joined}
use Rattle.planfile.proofs.WritingSteps.{Below}
use Rattle.planfile.proofs.writing.put_joins_from.Given as goal

abbrev pub invariant-loop-second : goal.invariant-loop-second
invariant-loop-second l = Below (record_if_joined (contents l.plan) l.first) (count (contents l.plan)) l.initial.buffer l.place l.second l.next l.buffer
