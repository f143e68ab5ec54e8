-- The states that follow a state, one after another.
use Rattle.std.specs.Prelude.{◌≡◌, ℕ, suc, ◌⊎◌, List, take, drop, Some, None, Option, IsSomeAnd}
use Rattle.std.specs.Option.{option_map_or}
use Rattle.policy.specs.Laws.{Choice}
use Rattle.plan.specs.Contents.{Contents, count}
use Rattle.model.specs.Units.{Step}
use Rattle.model.specs.declared.states.State.{State}
use Rattle.checker.specs.declared.following.Successors.{Successors}
use Rattle.model.specs.Memory.{times, RestSame}
use Rattle.checker.specs.Rows.{Between, Later, after}

-- the row x is still to come
pub record Coming (q : Successors) (x : List ℕ) : Type 0 where
  pub between : Between q.low.left q.high.left x
  pub later : IsSomeAnd q.next (λ s. (x ≡ s.left) ⊎ Later s.left x)

-- how many are still to come
abbrev pub coming : Successors → ℕ
coming q = option_map_or (λ s. suc (after s.left q.low.left q.high.left)) q.next 0

-- x came, and the others are still to come, it no more
pub record Came (q : Successors) (x : List ℕ) (r : Successors) : Type 0 where
  pub due : Coming q x
  pub still : (y : List ℕ) → Coming q y → (y ≡ x) ⊎ Coming r y
  pub only : (y : List ℕ) → Coming r y → Coming q y
  pub once : ¬ Coming r x

-- no row is still to come
abbrev pub Exhausted : Successors → Type 0
Exhausted q = (y : List ℕ) → ¬ Coming q y

-- what asking for the next one gives: one that was still to come, or nothing where none was, and
-- then nothing comes later either
abbrev pub GivesNext : Successors → Option State → Successors → Type 0
GivesNext q None r = Exhausted q × Exhausted r
GivesNext q (Some s) r = Came q s.left r

-- what is to come are the states that s steps to at t, each once, with the places past the last handler as they were
pub record SuccessorsOf (p : Contents) (D : Choice) (t : ℕ) (s : State) (q : Successors) : Type 0 where
  pub each : (v : List ℕ) → Step p D t (times p s) v → (x : List ℕ) × Coming q x × (take (count p) x ≡ v)
  pub only : (x : List ℕ) → Coming q x → Step p D t (times p s) (take (count p) x)
  pub rest : (x : List ℕ) → Coming q x → drop (count p) x ≡ drop (count p) s.left

-- x is the only state that s steps to at t, with the places past the last handler as they were
pub record OnlySuccessor (p : Contents) (D : Choice) (t : ℕ) (s x : State) : Type 0 where
  pub step : Step p D t (times p s) (times p x)
  pub only : (v : List ℕ) → Step p D t (times p s) v → v ≡ times p x
  pub rest : RestSame p s x
