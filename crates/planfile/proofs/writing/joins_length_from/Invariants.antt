use Rattle.plan.specs.Contents.{contents, count}
use Rattle.planfile.specs.Files.{record_if_joined}
use Rattle.planfile.proofs.WritingSteps.{Counted}
use Rattle.planfile.proofs.writing.joins_length_from.Given as goal

abbrev pub invariant-loop-second : goal.invariant-loop-second
invariant-loop-second l = Counted (record_if_joined (contents l.plan) l.first) (count (contents l.plan)) l.second l.length
