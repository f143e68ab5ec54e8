-- The handlers of a core, as a row of candidates.
use Rattle.std.specs.Prelude.{◌≡◌, ℕ, ◌+◌, ◌-◌, ◌≢◌, List, [], ◌∷◌, ◌++◌}
use Rattle.policy.specs.declared.cores.Core.{Core}
use Rattle.policy.specs.declared.candidates.Candidate.{Candidate}
use Rattle.plan.specs.Contents.{Contents, count, at, StandsFor}

-- the candidate is the handler of this number, and that one is of the core
abbrev pub IsOn : Contents → Core → ℕ → Candidate → Type 0
IsOn p k n x = ((at p (n - 1)).core ≡ k.number) × StandsFor x p n

-- the handler at this place is of another core
abbrev pub IsElsewhere : Contents → Core → ℕ → Type 0
IsElsewhere p k i = (at p i).core ≢ k.number

-- of the first n handlers, those of the core, in the order of their numbers
pub data RowTo (p : Contents) (k : Core) : ℕ → List Candidate → Type 0 where
  none : RowTo p k 0 []
  other : {n : ℕ} {row : List Candidate} → RowTo p k n row → IsElsewhere p k n → RowTo p k (n + 1) row
  on : {n : ℕ} {row : List Candidate} {x : Candidate} → RowTo p k n row → IsOn p k (n + 1) x
      → RowTo p k (n + 1) (row ++ x ∷ [])

-- all handlers of the core, in the order of their numbers
abbrev pub IsRowOf : Contents → Core → List Candidate → Type 0
IsRowOf p k row = RowTo p k (count p) row
