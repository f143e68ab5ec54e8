use Rattle.plan.specs.Contents.{contents, count}
use Rattle.planfile.specs.Files.{joins_from}
use Rattle.planfile.proofs.WritingSteps.{Below}
use Rattle.planfile.proofs.writing.put_joins.Given as goal

abbrev pub invariant-loop-first : goal.invariant-loop-first
invariant-loop-first l = Below (joins_from (contents l.plan)) (count (contents l.plan)) l.initial.buffer l.place l.first l.next l.buffer
