-- Plans with known verdicts, as one table.
use Rattle.std.specs.Prelude.{◌≡◌, ℕ, List, [], ◌∷◌, replicate, Contains as Has, Some, None, Option}
use Rattle.policy.specs.declared.codes.Code.{Code}
use Rattle.policy.specs.declared.codes.Code.TheVariants.{FixedPriority, RateMonotonic, EarliestDeadline}
use Rattle.policy.specs.Codes.{coded}
use Rattle.model.specs.declared.verdicts.Rows.TheVariants.{Working, Marks}
use Rattle.model.specs.declared.verdicts.Verdict.{Verdict}
use Rattle.model.specs.declared.verdicts.Verdict.TheVariants.{Kept, Missed, RowsShort}
use Rattle.model.specs.Units.{State, left}
use Rattle.model.specs.Runs.{Run}
use Rattle.samples.specs.declared.Call.{Call}
use Rattle.samples.specs.declared.Call.TheVariants.{Register, Join}
use Rattle.samples.specs.declared.Sample.{Sample}
use Rattle.samples.specs.Plans.{plan_of, Known}

-- registers a handler on a core: its times, its period, its offset
abbrev pub on : ℕ → ℕ → ℕ → ℕ → ℕ → Option Call
on core shortest longest period offset =
    Some (Register (record { period = period; offset = offset; shortest = shortest; longest = longest; core = core }))

-- joins the handler of number a before that of number b
abbrev pub before : ℕ → ℕ → Option Call
before a b = Some (Join a b)

-- a row of the table
abbrev pub row : List (Option Call) → List Code → ℕ → ℕ → Verdict → Sample
row calls codes working marks verdict = record { calls = calls; codes = codes; working = working; marks = marks; verdict = verdict }

-- ---- codes

-- fixed priority on every core
abbrev pub all_fixed : List Code
all_fixed = replicate 8 FixedPriority

-- rate-monotonic on every core
abbrev pub all_monotonic : List Code
all_monotonic = replicate 8 RateMonotonic

-- rate-monotonic, but earliest deadline first on core 2
abbrev pub deadline_on_two : List Code
deadline_on_two = RateMonotonic ∷ EarliestDeadline ∷ replicate 6 RateMonotonic

-- ---- calls, in eight rows

-- no calls: the empty plan
abbrev pub nothing : List (Option Call)
nothing = replicate 8 None

-- one handler that may work past its period
abbrev pub long_work : List (Option Call)
long_work = on 1 1 3 2 0 ∷ replicate 7 None

-- five handlers on three cores, of one period: the first works from `shortest` to 2, the others 1
abbrev pub chained : ℕ → ℕ → List (Option Call)
chained period shortest =
    on 1 shortest 2 period 0
    ∷ on 2 1 1 period 0
    ∷ on 3 1 1 period 0
    ∷ on 2 1 1 period 0
    ∷ on 3 1 1 period 0
    ∷ before 1 2
    ∷ before 3 4
    ∷ before 4 5
    ∷ []

-- two periods, and one handler released late
abbrev pub two_periods : List (Option Call)
two_periods = on 1 2 2 4 0 ∷ on 1 2 2 6 0 ∷ on 2 2 2 6 0 ∷ on 2 3 3 6 4 ∷ before 2 3 ∷ replicate 3 None

-- two states at each mark time
abbrev pub two_marks : List (Option Call)
two_marks = on 1 1 2 4 0 ∷ on 2 1 1 4 1 ∷ replicate 6 None

-- the first handler of core 1 is released a round after the others
abbrev pub late_first : List (Option Call)
late_first = on 1 1 1 4 4 ∷ on 1 1 1 4 0 ∷ on 2 1 1 4 0 ∷ on 2 2 2 4 0 ∷ before 2 3 ∷ replicate 3 None

-- ---- the table

-- each with the calls, the codes, the rows of a working table, the rows of the mark table, and the verdict
abbrev pub samples : List Sample
samples =
    row nothing all_fixed 128 128 (Kept 1 1)
    ∷ row nothing all_fixed 0 128 (RowsShort Working 0)
    ∷ row long_work all_fixed 128 128 (Missed 2 1)
    ∷ row (chained 3 1) all_fixed 128 128 (Missed 3 5)
    ∷ row (chained 3 2) all_fixed 128 128 (Kept 1 1)
    ∷ row (chained 4 1) all_fixed 2 128 (Kept 1 1)
    ∷ row (chained 4 1) all_fixed 1 128 (RowsShort Working 1)
    ∷ row two_periods all_monotonic 128 128 (Missed 10 4)
    ∷ row two_periods deadline_on_two 128 128 (Kept 1 1)
    ∷ row two_marks all_fixed 128 128 (Kept 1 2)
    ∷ row two_marks all_fixed 128 1 (RowsShort Marks 1)
    ∷ row late_first all_fixed 128 128 (Kept 1 1)
    ∷ []

-- every row of the table is as it says
abbrev pub SamplesKnown : Type 0
SamplesKnown = (x : Sample) → Has samples x → Known x

-- of the plan with a late release, by fixed priority: whatever the run, one unit is left of number 4 at time 2, and none a round after
abbrev pub LateFirstLeft : Type 0
LateFirstLeft =
    (run : ℕ → State) → Run (plan_of (row late_first all_fixed 128 128 (Kept 1 1))) (coded all_fixed) run
    → (left (run 2) 3 ≡ 1) × (left (run 6) 3 ≡ 0)
