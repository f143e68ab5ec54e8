-- Runs, the states that they have, and who is late in them.
use Rattle.std.specs.Prelude.{◌≡◌, ℕ, suc, ◌+◌, ◌-◌, ◌*◌, ◌<◌, ◌≤◌}
use Rattle.std.specs.Int.{◌∣◌}
use Rattle.policy.specs.Laws.{Choice}
use Rattle.plan.specs.Contents.{Contents, count, at, round, settling}
use Rattle.model.specs.Units.{State, left, zeros, Step}

-- a run: a state for each time, from nobody at work on, and one unit from each to the next, without end
pub record Run (p : Contents) (D : Choice) (run : ℕ → State) : Type 0 where
  pub begins : run 0 ≡ zeros p
  pub goes : (t : ℕ) → Step p D t (run t) (run (suc t))

-- s is a state at t: some run has it then
abbrev pub StateAt : Contents → Choice → ℕ → State → Type 0
StateAt p D t s = (run : ℕ → State) × Run p D run × (run t ≡ s)

-- in the state s at t the handler at the place i is late: a period of it, not the first, begins, and there is time left of the one before
pub record Late (p : Contents) (t : ℕ) (s : State) (i : ℕ) : Type 0 where
  pub known : i < count p
  pub due : (at p i).offset + (at p i).period ≤ t
  pub turn : (at p i).period ∣ t - (at p i).offset
  pub working : 0 < left s i

-- some run has the handler at the place i late at t
abbrev pub Misses : Contents → Choice → ℕ → ℕ → Type 0
Misses p D t i = (s : State) × StateAt p D t s × Late p t s i

-- no run is ever late
abbrev pub NeverLate : Contents → Choice → Type 0
NeverLate p D = (run : ℕ → State) → Run p D run → (t i : ℕ) → ¬ Late p t (run t) i

-- no run is late before t, some run is late at t, and n is the lowest number late then in any run
pub record EarliestMiss (p : Contents) (D : Choice) (t n : ℕ) : Type 0 where
  pub place : ℕ
  pub number : n ≡ suc place
  pub late : Misses p D t place
  pub lowest : (j : ℕ) → j < place → ¬ Misses p D t j
  pub earliest : (e : ℕ) → e < t → (j : ℕ) → ¬ Misses p D e j

-- the mark times, k = 0, 1, 2 and on: whole rounds (hyperperiods) after the settling time
abbrev pub mark : Contents → ℕ → ℕ
mark p k = settling p + k * round p

-- s is among the marks up to k: a state at one of the first k + 1 mark times
abbrev pub Marked : Contents → Choice → ℕ → State → Type 0
Marked p D k s = (j : ℕ) × (j ≤ k) × StateAt p D (mark p j) s
