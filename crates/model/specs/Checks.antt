-- What a check answers and leaves, for every plan, every discipline and any tables.
use Rattle.std.specs.Prelude.{◌≡◌, ℕ, ◌-◌, ◌<◌, ◌≤◌, ◌⊎◌, ◌≢◌, List, length, take, drop, Ok, Err, Result}
use Rattle.std.specs.List.{Contains as Has}
use Rattle.gather.specs.Levels.{Once}
use Rattle.policy.specs.Laws.{Choice}
use Rattle.plan.specs.declared.refusals.Refusal.{Refusal}
use Rattle.plan.specs.declared.refusals.Refusal.TheVariants.{UnfitTables}
use Rattle.plan.specs.Contents.{Contents}
use Rattle.plan.specs.Calls.{refuses}
use Rattle.model.specs.declared.verdicts.Verdict.{Verdict}
use Rattle.model.specs.declared.verdicts.Verdict.TheVariants.{Kept, Missed, RowsShort}
use Rattle.model.specs.Runs.{Marked}
use Rattle.model.specs.Verdicts.{VerdictIs}
use Rattle.model.specs.declared.states.State.{State}
use Rattle.model.specs.Memory.{Holds}

-- the tables that a check is lent, by their rows: two working tables, and the mark table
pub record Tables : Type 0 where
  pub front : List State
  pub back : List State
  pub marks : List State

abbrev pub tables : List State → List State → List State → Tables
tables front back marks = record { front = front; back = back; marks = marks }

-- the most rows that a table may have
abbrev pub most_rows : ℕ
most_rows = 65535

-- one working table is longer than the other, or any of the three has too many rows
abbrev pub Unfit : Tables → Type 0
Unfit x = (length x.front ≢ length x.back) ⊎ ((most_rows < length x.front) ⊎ ((most_rows < length x.back) ⊎ (most_rows < length x.marks)))

-- the answer is the model's verdict on the plan, for so many rows
abbrev pub Judges : Contents → Choice → Tables → Result Verdict Refusal → Type 0
Judges k D x r = (v : Verdict) × VerdictIs k D (length x.front) (length x.marks) v × (r ≡ Ok v)

-- the rows hold each mark up to k once, and nothing else
pub record HoldsMarks (p : Contents) (D : Choice) (k : ℕ) (rows : List State) : Type 0 where
  pub once : Once rows
  pub each : (v : List ℕ) → Marked p D k v → (x : State) × Has rows x × Holds p x v
  pub only : (x : State) → Has rows x → (v : List ℕ) × Marked p D k v × Holds p x v

-- where the verdict is kept, the rows are the marks, so many of them
abbrev pub KeptRows : Contents → Choice → Verdict → List State → Type 0
KeptRows p D (Kept k c) rows = (length rows ≡ c) × HoldsMarks p D (k - 1) rows
KeptRows p D (Missed t n) rows = Unit {0}
KeptRows p D (RowsShort r t) rows = Unit {0}

-- the first c rows of the mark table hold the marks up to k, and those past them are what they were
pub record LeavesMarks (p : Contents) (D : Choice) (k c : ℕ) (was is : List State) : Type 0 where
  pub fits : c ≤ length is
  pub marks : HoldsMarks p D k (take c is)
  pub rest : drop c is ≡ drop c was

-- what stands in the mark table after a verdict; after another than kept it is left free
abbrev pub MarksAfter : Contents → Choice → Verdict → List State → List State → Type 0
MarksAfter p D (Kept k c) was is = LeavesMarks p D (k - 1) c was is
MarksAfter p D (Missed t n) was is = Unit {0}
MarksAfter p D (RowsShort rows t) was is = Unit {0}

-- what stands in the tables after a check; the working tables are left free after a verdict, and after a refusal every table is what it was
abbrev pub TablesAfter : Contents → Choice → Result Verdict Refusal → Tables → Tables → Type 0
TablesAfter p D (Ok v) was is = MarksAfter p D v was.marks is.marks
TablesAfter p D (Err e) was is = is ≡ was

-- no table has grown or shrunk
pub record SameSizes (was is : Tables) : Type 0 where
  pub front : length is.front ≡ length was.front
  pub back : length is.back ≡ length was.back
  pub marks : length is.marks ≡ length was.marks

-- checking a plan that holds k, with these tables, answers r and leaves them so
pub record Checks (k : Contents) (D : Choice) (was : Tables) (r : Result Verdict Refusal) (is : Tables) : Type 0 where
  pub answers : refuses (Unfit was) UnfitTables (Judges k D was) r
  pub sizes : SameSizes was is
  pub leaves : TablesAfter k D r was is
