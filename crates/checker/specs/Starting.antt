-- Who starts at a time, and when somebody starts next.
use Rattle.std.specs.Prelude.{◌≡◌, ℕ, ◌+◌, ◌-◌, ◌<◌, ◌≤◌, ◌↔◌, Bool, Decides}
use Rattle.std.specs.Int.{◌∣◌, bit_at}
use Rattle.plan.specs.declared.handlers.Handler.{Handler}
use Rattle.plan.specs.Contents.{Contents, count}
use Rattle.model.specs.Units.{Starts}

-- a period of the handler begins at t
abbrev pub Begins : Handler → ℕ → Type 0
Begins h t = (h.offset ≤ t) × (h.period ∣ t - h.offset)

-- whether the handler starts at t, and how many units later it starts next
pub record TurnAt (h : Handler) (t : ℕ) (begins : Bool) (ahead : ℕ) : Type 0 where
  pub told : Decides begins (Begins h t)
  pub later : 1 ≤ ahead
  pub still : (k : ℕ) → 0 < k → k < ahead → ¬ Begins h (t + k)
  pub next : Begins h (t + ahead)

-- no handler starts at t
abbrev pub NobodyStarts : Contents → ℕ → Type 0
NobodyStarts p t = (i : ℕ) → i < count p → ¬ Starts p t i

-- some handler starts at t
abbrev pub SomebodyStarts : Contents → ℕ → Type 0
SomebodyStarts p t = ¬ NobodyStarts p t

-- the word has the bit of each handler that starts at t, by its place, and no other
pub record StartsAre (p : Contents) (t word : ℕ) : Type 0 where
  pub bits : (i : ℕ) → bit_at word i ≡ 1 ↔ ((i < count p) × Starts p t i)

-- after t nobody starts before so many units have gone
abbrev pub Quiet : Contents → ℕ → ℕ → Type 0
Quiet p t units = (k : ℕ) → 0 < k → k < units → NobodyStarts p (t + k)

-- so many units after t somebody starts, if there is a handler
abbrev pub NextStart : Contents → ℕ → ℕ → Type 0
NextStart p t units = 0 < count p → SomebodyStarts p (t + units)
