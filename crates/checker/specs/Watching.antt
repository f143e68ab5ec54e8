-- What an observer of a check has seen.
use Rattle.std.specs.Prelude.{◌≡◌, ℕ, ◌+◌, ◌-◌, ◌<◌, ◌≤◌, List}
use Rattle.policy.specs.Laws.{Choice}
use Rattle.plan.specs.Contents.{Contents}
use Rattle.model.specs.declared.verdicts.Rows.TheVariants.{Working, Marks}
use Rattle.model.specs.declared.verdicts.Verdict.{Verdict}
use Rattle.model.specs.declared.verdicts.Verdict.TheVariants.{Kept, Missed, RowsShort}
use Rattle.model.specs.Runs.{mark}
use Rattle.model.specs.declared.states.State.{State}
use Rattle.checker.specs.Fronts.{Front}

-- the rows are the states at t and at the times after it, so many times in all
abbrev pub AreStates : Contents → Choice → ℕ → ℕ → List State → Type 0
AreStates p D t times rows = (k : ℕ) → k < times → Front p D (t + k) rows

-- the observer a saw the states of each time from `from` on to before the given one, in the order of
-- the times, and became the given observer; `seen` is what its type says of one look
pub data Watches {O : Type 0} (seen : O → Contents → ℕ → ℕ → List State → O → Type 0)
    (p : Contents) (D : Choice) (from : ℕ) (a : O) : ℕ → O → Type 0 where
  nothing : Watches seen p D from a from a
  further : {t u : ℕ} {b c : O} → Watches seen p D from a t b → (times : ℕ) → (rows : List State)
      → 1 ≤ times → t + times ≡ u → AreStates p D t times rows
      → seen b p (u - 1) times rows c → Watches seen p D from a u c

-- the first time that is not looked at, where this is the verdict: the one after that of the verdict,
-- or, where its states do not fit, that one
abbrev pub unseen : Contents → Verdict → ℕ
unseen p (Kept k c) = mark p k + 1
unseen p (Missed t n) = t + 1
unseen p (RowsShort Working t) = t
unseen p (RowsShort Marks t) = t + 1
