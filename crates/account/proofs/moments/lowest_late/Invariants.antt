use Rattle.std.proofs.Common.{ℕ, ◌<◌}
use Rattle.plan.specs.Contents.{contents}
use Rattle.checker.specs.Fronts.{LateInOne}
use Rattle.account.proofs.moments.lowest_late.Given as goal

-- nobody at an earlier place is late
abbrev pub invariant-loop-place : goal.invariant-loop-place
invariant-loop-place l =
    (i : ℕ) → i < l.place → ¬ LateInOne (contents l.plan) l.time l.states i
