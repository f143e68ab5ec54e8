use Rattle.plan.specs.Contents.{contents, count}
use Rattle.planfile.specs.Files.{joins_from}
use Rattle.planfile.proofs.WritingSteps.{Counted}
use Rattle.planfile.proofs.writing.joins_length.Given as goal

abbrev pub invariant-loop-first : goal.invariant-loop-first
invariant-loop-first l = Counted (joins_from (contents l.plan)) (count (contents l.plan)) l.first l.length
