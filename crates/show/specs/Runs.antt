-- Runs in which the starts take the times of a list, one after another.
use Rattle.std.specs.Prelude.{◌≡◌, ℕ, ◌+◌, List, drop, replicate}
use Rattle.policy.specs.Laws.{Choice}
use Rattle.plan.specs.Contents.{Contents}
use Rattle.model.specs.declared.states.State.{State}
use Rattle.checker.specs.Given.{GivenThenServed}

-- from the state at time 0, n units with the first `used` times of the list lead to the state
pub data RunWith (p : Contents) (D : Choice) (list : List ℕ) : ℕ → ℕ → State → Type 0 where
  first : {s : State} → s.left ≡ replicate 64 0 → RunWith p D list 0 0 s
  unit : {n used more : ℕ} {s v : State} → RunWith p D list n used s
      → GivenThenServed p D n (drop used list) s v more
      → RunWith p D list (n + 1) (used + more) v

-- a run of n units takes the first `used` times of the list
abbrev pub Takes : Contents → Choice → List ℕ → ℕ → ℕ → Type 0
Takes p D list n used = (s : State) × RunWith p D list n used s
