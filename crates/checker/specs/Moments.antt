-- A time of a plan, and what depends on the time alone.
use Rattle.std.specs.Prelude.{◌≡◌, ℕ, ◌+◌, ◌-◌, ◌<◌, ◌≤◌, min}
use Rattle.std.specs.Int.{◌∣◌}
use Rattle.std.specs.Option.{ForSome}
use Rattle.policy.specs.Laws.{Choice}
use Rattle.plan.specs.Contents.{Contents, at}
pub use Rattle.checker.specs.Starting.{NobodyStarts, SomebodyStarts, NextStart}
use Rattle.checker.specs.Prepared.{IsPrepared}
use Rattle.checker.specs.declared.moments.Moment.{Moment}

-- no handler starts at t, nor in the units after it, so many in all
abbrev pub Calm : Contents → ℕ → ℕ → Type 0
Calm p t units = (k : ℕ) → k < units → NobodyStarts p (t + k)

-- a period of the handler at the place i, not its first, begins at t
abbrev pub Due : Contents → ℕ → ℕ → Type 0
Due p t i = ((at p i).offset + (at p i).period ≤ t) × ((at p i).period ∣ t - (at p i).offset)

-- the latest time that a clock shows
abbrev pub end_of_clock : ℕ
end_of_clock = 18446744073709551615

-- so many units later, as a clock shows it, which stops at its end
abbrev pub LaterBy : ℕ → ℕ → ℕ → Type 0
LaterBy units t later = later ≡ min (t + units) end_of_clock

-- where the handlers are sorted, if they ever were, they stand in their order under this choice at
-- this time
abbrev pub Prepared : Choice → Moment → Type 0
Prepared D m = ForSome m.priorities (IsPrepared D m.time)
