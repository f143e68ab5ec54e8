-- The verdict on a plan under a discipline, for so many working rows and so many mark rows.
use Rattle.std.specs.Prelude.{◌≡◌, ℕ, suc, ◌-◌, ◌<◌, ◌≤◌, List, length}
use Rattle.std.specs.List.{Contains as Has}
use Rattle.gather.specs.Levels.{Once}
use Rattle.policy.specs.Laws.{Choice}
use Rattle.plan.specs.Contents.{Contents}
use Rattle.model.specs.declared.verdicts.Rows.TheVariants.{Working, Marks}
use Rattle.model.specs.declared.verdicts.Verdict.{Verdict}
use Rattle.model.specs.declared.verdicts.Verdict.TheVariants.{Kept, Missed, RowsShort}
use Rattle.model.specs.Units.{State}
use Rattle.model.specs.Runs.{StateAt, Misses, mark, Marked}

-- more than n states are such
pub record Outnumber (P : State → Type 0) (n : ℕ) : Type 0 where
  pub states : List State
  pub once : Once states
  pub such : (s : State) → Has states s → P s
  pub many : n < length states

-- just n states are such
pub record Number (P : State → Type 0) (n : ℕ) : Type 0 where
  pub states : List State
  pub once : Once states
  pub such : (s : State) → Has states s → P s
  pub all : (s : State) → P s → Has states s
  pub many : length states ≡ n

-- k is 1 or more, and the mark time k brings no new state: each was a mark before
abbrev pub Closes : Contents → Choice → ℕ → Type 0
Closes p D k = (1 ≤ k) × ((s : State) → StateAt p D (mark p k) s → Marked p D (k - 1) s)

-- no run is late at t
abbrev pub Timely : Contents → Choice → ℕ → Type 0
Timely p D t = (i : ℕ) → ¬ Misses p D t i

-- the time t gives no verdict
pub record Passes (p : Contents) (D : Choice) (working marks t : ℕ) : Type 0 where
  pub fits : ¬ Outnumber (StateAt p D t) working
  pub timely : Timely p D t
  pub opens : (k : ℕ) → t ≡ mark p k → ¬ Closes p D k
  pub holds : (k : ℕ) → t ≡ mark p k → ¬ Outnumber (Marked p D k) marks

-- the time t gives this verdict, by the first of the four tests that holds at it
abbrev pub Gives : Contents → Choice → ℕ → ℕ → ℕ → Verdict → Type 0
Gives p D working marks t (RowsShort Working e) = (e ≡ t) × Outnumber (StateAt p D t) working
Gives p D working marks t (Missed e n) =
    (e ≡ t) × (¬ Outnumber (StateAt p D t) working)
    × ((i : ℕ) × (n ≡ suc i) × Misses p D t i × ((j : ℕ) → j < i → ¬ Misses p D t j))
Gives p D working marks t (Kept k c) =
    (t ≡ mark p k) × (¬ Outnumber (StateAt p D t) working) × Timely p D t × Closes p D k × Number (Marked p D (k - 1)) c
Gives p D working marks t (RowsShort Marks e) =
    (e ≡ t) × (¬ Outnumber (StateAt p D t) working) × Timely p D t
    × ((k : ℕ) × (t ≡ mark p k) × (¬ Closes p D k) × Outnumber (Marked p D k) marks)

-- the verdict is v: the first time that gives one gives this
abbrev pub VerdictIs : Contents → Choice → ℕ → ℕ → Verdict → Type 0
VerdictIs p D working marks v = (t : ℕ) × ((e : ℕ) → e < t → Passes p D working marks e) × Gives p D working marks t v
