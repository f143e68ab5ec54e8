use Rattle.plan.specs.Contents.{contents}
use Rattle.checker.proofs.Finding.{FoundTo}
use Rattle.checker.proofs.moments.finding.find.Given as goal

abbrev pub invariant-loop-place : goal.invariant-loop-place
invariant-loop-place l = FoundTo (contents l.plan) l.time l.place l.starters l.quiet
