use Rattle.std.proofs.Common.{ℕ, ◌<◌}
use Rattle.plan.specs.Contents.{contents}
use Rattle.checker.specs.Fronts.{LateInOne}
use Rattle.checker.proofs.fronts.lateness.lowest_late.Given as goal

abbrev pub invariant-loop-place : goal.invariant-loop-place
invariant-loop-place l = (i : ℕ) → i < l.place → ¬ LateInOne (contents l.moment.plan.now) l.moment.time l.rows i
