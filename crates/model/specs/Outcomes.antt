-- What the verdict of one check says of all runs of its plan, with no word about the calls before.
use Rattle.std.specs.Prelude.{◌≡◌, ℕ, ◌+◌, ◌*◌, ◌<◌, ◌≤◌, ◌⊎◌, ◌↔◌, List, length, take}
use Rattle.std.specs.List.{Contains as Has}
use Rattle.gather.specs.Levels.{Once}
use Rattle.policy.specs.Laws.{Choice}
use Rattle.plan.specs.Contents.{Contents}
use Rattle.model.specs.declared.verdicts.Rows.{Rows}
use Rattle.model.specs.declared.verdicts.Rows.TheVariants.{Working, Marks}
use Rattle.model.specs.declared.verdicts.Verdict.{Verdict}
use Rattle.model.specs.declared.verdicts.Verdict.TheVariants.{Kept, Missed, RowsShort}
use Rattle.model.specs.Runs.{StateAt, Misses, NeverLate, EarliestMiss, mark, Marked}
use Rattle.model.specs.Verdicts.{Outnumber, Closes}
use Rattle.model.specs.declared.states.State.{State}
use Rattle.model.specs.Memory.{Holds}
use Rattle.model.specs.Checks.{Tables}

-- ---- kept

-- the rows hold the states that some run has at mark times, each once, and nothing else
pub record AreTheMarks (p : Contents) (D : Choice) (rows : List State) : Type 0 where
  pub once : Once rows
  pub each : (j : ℕ) (v : List ℕ) → StateAt p D (mark p j) v
      → (x : State) × Has rows x × Holds p x v
  pub only : (x : State) → Has rows x
      → (j : ℕ) × (v : List ℕ) × StateAt p D (mark p j) v × Holds p x v

-- no run is ever late, the mark time k is the first that brings no new state, and the marks are the
-- first c rows left in the mark table
pub record KeptHolds (p : Contents) (D : Choice) (left : List State) (k c : ℕ) : Type 0 where
  pub never_late : NeverLate p D
  pub closes : Closes p D k
  pub first : (j : ℕ) → j < k → ¬ Closes p D j
  pub fits : c ≤ length left
  pub marks : AreTheMarks p D (take c left)

-- ---- rows short

-- the rows are too few at t: those of a working table for the states at t, those of the mark table
-- for the marks up to the mark time t
abbrev pub TooFew : Contents → Choice → Tables → Rows → ℕ → Type 0
TooFew p D x Working t = Outnumber (StateAt p D t) (length x.front)
TooFew p D x Marks t = (k : ℕ) × (t ≡ mark p k) × Outnumber (Marked p D k) (length x.marks)

-- another verdict comes at t: some run is late then, or it is a mark time that brings no new mark
abbrev pub EndsAt : Contents → Choice → ℕ → Type 0
EndsAt p D t = ((i : ℕ) × Misses p D t i) ⊎ ((k : ℕ) × (t ≡ mark p k) × Closes p D k)

-- what is tested at e comes before these rows are tested at t: the working rows are tested first at
-- a time, and the mark rows last
abbrev pub TestedBefore : Rows → ℕ → ℕ → Type 0
TestedBefore Working t e = e < t
TestedBefore Marks t e = e ≤ t

-- the rows are too few at t, and the order of the tests has not reached another verdict before
pub record RunsShort (p : Contents) (D : Choice) (x : Tables) (rows : Rows) (t : ℕ) : Type 0 where
  pub few : TooFew p D x rows t
  pub before : (e : ℕ) → TestedBefore rows t e → ¬ EndsAt p D e

-- the place of a test of rows among all such tests: by time, and at one time the working rows first
abbrev pub turn : Rows → ℕ → ℕ
turn Working t = 2 * t
turn Marks t = 2 * t + 1

-- the verdict is rows short exactly when rows run short, and then it names the first such table and
-- time
pub record ShortExactly (p : Contents) (D : Choice) (x : Tables) (v : Verdict) : Type 0 where
  pub when : ((rows : Rows) × (t : ℕ) × (v ≡ RowsShort rows t))
      ↔ ((rows : Rows) × (t : ℕ) × RunsShort p D x rows t)
  pub such : (rows : Rows) (t : ℕ) → v ≡ RowsShort rows t → RunsShort p D x rows t
  pub first : (rows other : Rows) (t e : ℕ) → v ≡ RowsShort rows t → RunsShort p D x other e
      → turn rows t ≤ turn other e

-- ---- any verdict

-- this verdict on the plan under the discipline, with these tables before and after the check,
-- holds of all runs
pub record VerdictHolds (p : Contents) (D : Choice) (was is : Tables) (v : Verdict) : Type 0 where
  pub kept : (k c : ℕ) → v ≡ Kept k c → KeptHolds p D is.marks k c
  -- t is the earliest time at which any run is late, and n the lowest number late then in any
  pub missed : (t n : ℕ) → v ≡ Missed t n → EarliestMiss p D t n
  pub short : ShortExactly p D was v
