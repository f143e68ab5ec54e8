-- States in memory, and the states of the model that they hold.
use Rattle.std.specs.Prelude.{◌≡◌, ℕ, ◌-◌, List, take, drop, replicate}
use Rattle.plan.specs.Contents.{Contents, count}
use Rattle.model.specs.declared.states.State.{State}

-- the times left of the plan's handlers
abbrev pub times : Contents → State → List ℕ
times p s = take (count p) s.left

-- the places past the last handler are what they were
abbrev pub RestSame : Contents → State → State → Type 0
RestSame p s v = drop (count p) v.left ≡ drop (count p) s.left

-- the row x holds the state v: the times left of the plan's handlers, and 0 past the last of them
pub record Holds (p : Contents) (x : State) (v : List ℕ) : Type 0 where
  pub left : times p x ≡ v
  pub blank : drop (count p) x.left ≡ replicate (64 - count p) 0
