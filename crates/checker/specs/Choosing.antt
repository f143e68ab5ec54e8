-- The choice on a core.
use Rattle.std.specs.Prelude.{◌≡◌, ℕ, suc, ◌-◌, ◌<◌, true, ◌≢◌, Some, None, Option, List, slice_index_or}
use Rattle.std.specs.Option.{option_map}
use Rattle.policy.specs.declared.cores.Core.{Core}
use Rattle.policy.specs.declared.candidates.Candidate.{Candidate}
use Rattle.policy.specs.Laws.{Choice}
use Rattle.plan.specs.Contents.{Contents, count, at, joins, StandsFor}
use Rattle.model.specs.Units.{State, left, Ready, GoesBefore, Running}

-- none where no handler of the core is ready, and else the number of the one that runs there
abbrev pub Chosen : Contents → Choice → ℕ → State → Core → Option ℕ → Type 0
Chosen p D t u c None = (i : ℕ) → i < count p → (at p i).core ≡ c.number → ¬ Ready p u i
Chosen p D t u c (Some n) = (i : ℕ) × (n ≡ suc i) × (i < count p) × ((at p i).core ≡ c.number) × Running p D t u i

-- the handler of number a is joined before that of number b, and has time left
abbrev pub HoldsUp : Contents → State → ℕ → ℕ → Type 0
HoldsUp p u a b = (joins p a b ≡ true) × (0 < left u (a - 1))

-- the handler at the place i is one of the core, and ready
abbrev pub Contends : Contents → State → Core → ℕ → Type 0
Contends p u c i = ((at p i).core ≡ c.number) × Ready p u i

-- the candidate is the one at the place i, which contends and goes before all others below n that do
pub record FirstAt (p : Contents) (D : Choice) (t : ℕ) (u : State) (c : Core) (n : ℕ) (x : Candidate) (i : ℕ) : Type 0 where
  pub below : i < n
  pub is : StandsFor x p (suc i)
  pub contends : Contends p u c i
  pub first : (j : ℕ) → j < n → j ≢ i → Contends p u c j → GoesBefore p D t i j

-- the first of those below n that contend, and none where none does
abbrev pub FirstBelow : Contents → Choice → ℕ → State → Core → ℕ → Option Candidate → Type 0
FirstBelow p D t u c n None = (i : ℕ) → i < n → ¬ Contends p u c i
FirstBelow p D t u c n (Some x) = (i : ℕ) × FirstAt p D t u c n x i

-- the number of the candidate that stands in a table of the cores at this one's place
abbrev pub number_at : List (Option Candidate) → Core → Option ℕ
number_at firsts c = option_map (λ x. x.number) (slice_index_or firsts (c.number - 1) None)
