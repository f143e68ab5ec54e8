-- Starting handlers with times from a list, one after another in the order of their numbers.
use Rattle.std.specs.Prelude.{◌≡◌, ℕ, ◌+◌, ◌-◌, ◌<◌, ◌≤◌, ◌⊎◌, List, length, slice_index, slice_set}
use Rattle.policy.specs.Laws.{Choice}
use Rattle.plan.specs.declared.handlers.Handler.{Handler}
use Rattle.plan.specs.Contents.{Contents, count, at}
use Rattle.model.specs.Units.{Starts, Served}
use Rattle.model.specs.declared.states.State.{State}
use Rattle.checker.specs.declared.given.Misfit.{Misfit}
use Rattle.checker.specs.declared.given.Misfit.TheVariants.{Ended, Outside}
use Rattle.model.specs.Memory.{times, RestSame}

-- the time is one that the handler can take
abbrev pub FitsHandler : Handler → ℕ → Type 0
FitsHandler h time = (h.shortest ≤ time) × (time ≤ h.longest)

-- and one that it cannot
abbrev pub MisfitsHandler : Handler → ℕ → Type 0
MisfitsHandler h time = (time < h.shortest) ⊎ (h.longest < time)

-- how many times of the list are used where rest is what is left of it
abbrev pub used_up : List ℕ → List ℕ → ℕ
used_up list rest = length list - length rest

-- of the first n handlers, those that start at t have taken the first `used` times of the list, each the next one, and the row `was` has become `row`
pub data Given (p : Contents) (t : ℕ) (list was : List ℕ) : ℕ → List ℕ → ℕ → Type 0 where
  none : Given p t list was 0 was 0
  rests : {n used : ℕ} {row : List ℕ} → Given p t list was n row used → ¬ Starts p t n → Given p t list was (n + 1) row used
  takes : {n used : ℕ} {row : List ℕ} → Given p t list was n row used → Starts p t n → used < length list → FitsHandler (at p n) (slice_index list used)
      → Given p t list was (n + 1) (slice_set row n (slice_index list used)) (used + 1)

-- the handlers before the place i, which starts at t, have taken `used` times
pub record TurnOf (p : Contents) (t : ℕ) (list was : List ℕ) (i used : ℕ) : Type 0 where
  pub known : i < count p
  pub starts : Starts p t i
  pub row : List ℕ
  pub before : Given p t list was i row used

-- a time that the handler cannot be started with, and why
abbrev pub RefusesTime : Handler → ℕ → List ℕ → ℕ → Misfit → Type 0
RefusesTime h n list used (Ended number) = (number ≡ n) × (length list ≤ used)
RefusesTime h n list used (Outside number time) = (number ≡ n) × (used < length list) × (time ≡ slice_index list used) × MisfitsHandler h time

-- why a list does not do: the first handler that starts, in the order of the numbers, for which the next time is missing or is not one of its own
abbrev pub StopsAt : Contents → ℕ → List ℕ → List ℕ → Misfit → Type 0
StopsAt p t list was e = (i : ℕ) × (used : ℕ) × TurnOf p t list was i used × RefusesTime (at p i) (i + 1) list used e

-- the starts of t with the next times of the list, and then the unit
pub record GivenThenServed (p : Contents) (D : Choice) (t : ℕ) (list : List ℕ) (s v : State) (used : ℕ) : Type 0 where
  pub begun : State
  pub given : Given p t list s.left (count p) begun.left used
  pub served : Served p D t (times p begun) (times p v)
  pub rest : RestSame p begun v
