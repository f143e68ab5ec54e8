-- What is proved of the model, for every plan that can exist and every discipline that obeys its laws.
use Rattle.std.specs.Prelude.{◌≡◌, ℕ, suc, ◌+◌, ◌-◌, ◌<◌, ◌≤◌, ◌↔◌}
use Rattle.policy.specs.Laws.{Choice, IsLawfulChoice}
use Rattle.plan.specs.Contents.{Contents, Sound, count, at, round, settling}
use Rattle.model.specs.declared.verdicts.Verdict.{Verdict}
use Rattle.model.specs.declared.verdicts.Verdict.TheVariants.{Kept, Missed}
use Rattle.model.specs.Units.{State, left, Started, Ready, Running, Served, Step}
use Rattle.model.specs.Runs.{StateAt, NeverLate, EarliestMiss, mark, Marked}
use Rattle.model.specs.Verdicts.{Number, VerdictIs}

-- every beginning of a run goes on for ever: the states at t + 1 are those that the states at t step to
abbrev pub BeginningsGoOn : Type 0
BeginningsGoOn =
    (p : Contents) (D : Choice) → Sound p → (t : ℕ) (v : State)
    → StateAt p D (suc t) v ↔ ((s : State) × StateAt p D t s × Step p D t s v)

-- on a core with a ready handler exactly one runs
abbrev pub OneRuns : Type 0
OneRuns =
    (p : Contents) (D : Choice) → Sound p → IsLawfulChoice D → (t : ℕ) (u : State) (i : ℕ) → i < count p → Ready p u i
    → (r : ℕ) × (r < count p) × ((at p r).core ≡ (at p i).core) × Running p D t u r
    × ((j : ℕ) → j < count p → (at p j).core ≡ (at p i).core → Running p D t u j → j ≡ r)

-- where some handler has time left, some handler is ready: joins in no circle block nobody for good
abbrev pub SomeoneIsReady : Type 0
SomeoneIsReady = (p : Contents) → Sound p → (u : State) (i : ℕ) → i < count p → 0 < left u i → (r : ℕ) × (r < count p) × Ready p u r

-- from the settling time on, a unit is the same one round later
abbrev pub UnitsRepeat : Type 0
UnitsRepeat =
    (p : Contents) (D : Choice) → Sound p → IsLawfulChoice D → (t : ℕ) (s v : State) → settling p ≤ t
    → Step p D t s v ↔ Step p D (t + round p) s v

-- from one state at one time, different combinations of chosen times step to different states
abbrev pub ChoicesTell : Type 0
ChoicesTell =
    (p : Contents) (D : Choice) → Sound p → (t : ℕ) (s u w v : State)
    → Started p t s u → Started p t s w → Served p D t u v → Served p D t w v → u ≡ w

-- kept: no run is ever late
abbrev pub KeptIsNeverLate : Type 0
KeptIsNeverLate =
    (p : Contents) (D : Choice) → Sound p → IsLawfulChoice D → (working marks k c : ℕ)
    → VerdictIs p D working marks (Kept k c) → NeverLate p D

-- kept: the marks counted are exactly the states that some run has at any mark time at all
abbrev pub KeptCountsAllMarks : Type 0
KeptCountsAllMarks =
    (p : Contents) (D : Choice) → Sound p → IsLawfulChoice D → (working marks k c : ℕ)
    → VerdictIs p D working marks (Kept k c)
    → Number (λ s. (j : ℕ) × StateAt p D (mark p j) s) c × ((j : ℕ) (s : State) → StateAt p D (mark p j) s → Marked p D (k - 1) s)

-- missed: the earliest time at which any run is late, and the lowest number late then in any
abbrev pub MissedIsTheEarliest : Type 0
MissedIsTheEarliest =
    (p : Contents) (D : Choice) (working marks t n : ℕ) → VerdictIs p D working marks (Missed t n) → EarliestMiss p D t n

-- for given row counts there is exactly one verdict
abbrev pub OneVerdict : Type 0
OneVerdict =
    (p : Contents) (D : Choice) → Sound p → (working marks : ℕ)
    → (v : Verdict) × VerdictIs p D working marks v × ((w : Verdict) → VerdictIs p D working marks w → w ≡ v)

-- all that is proved of verdicts
pub record VerdictsAreTrue : Type 0 where
  pub one_verdict : OneVerdict
  pub kept_is_never_late : KeptIsNeverLate
  pub kept_counts_all_marks : KeptCountsAllMarks
  pub missed_is_the_earliest : MissedIsTheEarliest
