-- What is told of a time, and of a core.
use Rattle.std.specs.Prelude.{◌≡◌, ◌≢◌, ℕ, ◌+◌, ◌-◌, List, length, Some, None, Option}
use Rattle.gather.specs.Growth.{Grown, Overfull}
use Rattle.policy.specs.declared.cores.Core.{Core}
use Rattle.plan.specs.Contents.{Contents, at, Known}
use Rattle.model.specs.Runs.{mark}
use Rattle.model.specs.declared.states.State.{State}
use Rattle.checker.specs.Fronts.{LateInOne, Lowest}
use Rattle.account.specs.declared.moments.Event.{Event}
use Rattle.account.specs.declared.moments.Event.TheVariants.{Nothing, Late, NewMarks}
use Rattle.account.specs.declared.moments.Event.TheVariants.{NoRoomForMarks}
use Rattle.account.specs.declared.moments.Moment.{Moment}

-- the handler of number n is on this core
abbrev pub IsOn : Contents → Core → ℕ → Type 0
IsOn p core n = Known p n × ((at p (n - 1)).core ≡ core.number)

-- the number of the mark time that t is, and none where it is no mark time
abbrev pub IsMarkTime : Contents → ℕ → Option ℕ → Type 0
IsMarkTime p t (Some k) = t ≡ mark p k
IsMarkTime p t None = (k : ℕ) → t ≢ mark p k

-- putting the states of a mark time among the marks: so many are new, or there is no room for one
abbrev pub Marks : List State → List State → ℕ → Event → List State → Type 0
Marks states was room Nothing is = ⊥
Marks states was room (Late n) is = ⊥
Marks states was room (NewMarks n) is = Grown was states is × (length is ≡ length was + n)
Marks states was room NoRoomForMarks is = Overfull was states is × (length is ≡ room)

-- nobody is late at t in these states
abbrev pub NobodyLate : Contents → ℕ → List State → Type 0
NobodyLate p t states = Lowest (LateInOne p t states) None

-- what happens at t: the lowest number late in these states, or else, at a mark time, new marks
abbrev pub Happens : Contents → ℕ → List State → List State → ℕ → Option ℕ
    → Event → List State → Type 0
Happens p t states was room k Nothing is = NobodyLate p t states × (k ≡ None) × (is ≡ was)
Happens p t states was room k (Late n) is = Lowest (LateInOne p t states) (Some n) × (is ≡ was)
Happens p t states was room k (NewMarks n) is =
    NobodyLate p t states × (k ≢ None) × Marks states was room (NewMarks n) is
Happens p t states was room k NoRoomForMarks is =
    NobodyLate p t states × (k ≢ None) × Marks states was room NoRoomForMarks is

-- what is told of the time t with these states, and what it leaves of the marks
pub record Tells (p : Contents) (t : ℕ) (states was : List State) (room : ℕ)
    (m : Moment) (is : List State) : Type 0 where
  pub time : m.time ≡ t
  pub mark_time : IsMarkTime p t m.mark_time
  pub count : m.states ≡ length states
  pub event : Happens p t states was room m.mark_time m.event is
