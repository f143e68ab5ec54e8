-- The states of a time, as rows of a table, and those of the next time.
use Rattle.std.specs.Prelude.{◌≡◌, ℕ, suc, ◌-◌, ◌<◌, ◌≤◌, ◌⊎◌, List, length, drop, slice_index, replicate, refl, Some, None, Option, Result, MatchResult}
use Rattle.std.specs.List.{Contains as Has}
use Rattle.gather.specs.Levels.{Once}
use Rattle.policy.specs.Laws.{Choice}
use Rattle.plan.specs.Contents.{Contents, count}
use Rattle.model.specs.Units.{Step}
use Rattle.model.specs.Runs.{StateAt, Late}
use Rattle.model.specs.declared.states.State.{State}
use Rattle.model.specs.Memory.{times, RestSame, Holds}
use Rattle.checker.specs.declared.fronts.NoRoom.{NoRoom}

-- the row in which nobody has time left
abbrev pub idle : State
idle = record { left = replicate 64 0; whole = refl }

-- the row x follows the row s at t: one unit of the model, and the places past the last handler as they were
abbrev pub StepsTo : Contents → Choice → ℕ → State → State → Type 0
StepsTo p D t s x = Step p D t (times p s) (times p x) × RestSame p s x

-- x follows one of these rows
abbrev pub FollowsOne : Contents → Choice → ℕ → List State → State → Type 0
FollowsOne p D t front x = (s : State) × Has front s × StepsTo p D t s x

-- after has the rows of front and those of which P holds, all of them, and no others
pub record Joined (P : State → Type 0) (front after : List State) : Type 0 where
  pub old : (x : State) → Has front x → Has after x
  pub new : (x : State) → P x → Has after x
  pub only : (x : State) → Has after x → Has front x ⊎ P x

-- more rows than there is room for, each of which front has or P holds of
pub record Overrun (P : State → Type 0) (front : List State) (room : ℕ) : Type 0 where
  pub rows : List State
  pub once : Once rows
  pub such : (x : State) → Has rows x → Has front x ⊎ P x
  pub many : room < length rows

-- what putting in the rows of which P holds answers and leaves
abbrev pub Joins : (State → Type 0) → ℕ → List State → Result (Unit {0}) NoRoom → List State → Type 0
Joins P room front result after = MatchResult result (λ _. Joined P front after) (λ _. Overrun P front room)

-- the rows are the states at t: each has a row, and each row holds one
pub record Front (p : Contents) (D : Choice) (t : ℕ) (rows : List State) : Type 0 where
  pub each : (v : List ℕ) → StateAt p D t v → (x : State) × Has rows x × Holds p x v
  pub only : (x : State) → Has rows x → (v : List ℕ) × StateAt p D t v × Holds p x v

-- the handler at the place i is late at t in one of the rows
abbrev pub LateInOne : Contents → ℕ → List State → ℕ → Type 0
LateInOne p t rows i = (x : State) × Has rows x × Late p t (times p x) i

-- the handler of this number has time left in one of the rows
abbrev pub WorkingInOne : List State → ℕ → Type 0
WorkingInOne rows n = (1 ≤ n) × (n ≤ 64) × ((x : State) × Has rows x × (0 < slice_index x.left (n - 1)))

-- the lowest number of a handler at a place of which P holds, and none where it holds of no place
abbrev pub Lowest : (ℕ → Type 0) → Option ℕ → Type 0
Lowest P None = (i : ℕ) → ¬ P i
Lowest P (Some n) = (i : ℕ) × (n ≡ suc i) × P i × ((j : ℕ) → j < i → ¬ P j)
