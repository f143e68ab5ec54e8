-- One unit of time: who starts, who is ready, who runs on each core, and what is left then. A handler goes by its place, its number less one.
use Rattle.std.specs.Prelude.{◌≡◌, ℕ, suc, ◌-◌, ◌<◌, ◌≤◌, true, ◌≢◌, List, length, replicate, slice_index}
use Rattle.std.specs.Int.{◌∣◌}
use Rattle.policy.specs.declared.cores.Core.{Core}
use Rattle.policy.specs.declared.candidates.Candidate.{Candidate}
use Rattle.policy.specs.Laws.{Choice}
use Rattle.plan.specs.Contents.{Contents, count, at, StandsFor}

-- a state: the time left of each handler, in the order of their numbers
abbrev pub State : Type 0
State = List ℕ

-- the time left of the handler at the place i
abbrev pub left : State → ℕ → ℕ
left s i = slice_index s i

-- the state at time 0: nobody has time left
abbrev pub zeros : Contents → State
zeros p = replicate (count p) 0

-- a period of the handler at the place i begins at the time t, and it is released
abbrev pub Starts : Contents → ℕ → ℕ → Type 0
Starts p t i = ((at p i).offset ≤ t) × ((at p i).period ∣ t - (at p i).offset)

-- from s to u: who starts at t gets any time from its shortest to its longest, and every other keeps its own
pub record Started (p : Contents) (t : ℕ) (s u : State) : Type 0 where
  pub long : length u ≡ count p
  pub fresh : (i : ℕ) → i < count p → Starts p t i → ((at p i).shortest ≤ left u i) × (left u i ≤ (at p i).longest)
  pub same : (i : ℕ) → i < count p → ¬ Starts p t i → left u i ≡ left s i

-- there is time left, and none of any handler joined before it
pub record Ready (p : Contents) (u : State) (i : ℕ) : Type 0 where
  pub working : 0 < left u i
  pub waits : (a : ℕ) → p.joined a i ≡ true → left u a ≡ 0

-- asked about the handlers at the places i and j, on the core of the first, the discipline names the first
pub record GoesBefore (p : Contents) (D : Choice) (t i j : ℕ) : Type 0 where
  pub core : Core
  pub one : Candidate
  pub other : Candidate
  pub on : core.number ≡ (at p i).core
  pub is_one : StandsFor one p (suc i)
  pub is_other : StandsFor other p (suc j)
  pub named : D core one other t ≡ true

-- ready, and before every other ready one on its core: this is the handler that the core serves
pub record Running (p : Contents) (D : Choice) (t : ℕ) (u : State) (i : ℕ) : Type 0 where
  pub ready : Ready p u i
  pub first : (j : ℕ) → j < count p → j ≢ i → (at p j).core ≡ (at p i).core → Ready p u j → GoesBefore p D t i j

-- from u to v: who runs loses one unit of time left, and every other keeps its own
pub record Served (p : Contents) (D : Choice) (t : ℕ) (u v : State) : Type 0 where
  pub long : length v ≡ count p
  pub ran : (i : ℕ) → i < count p → Running p D t u i → left u i ≡ suc (left v i)
  pub waited : (i : ℕ) → i < count p → ¬ Running p D t u i → left v i ≡ left u i

-- one unit: from the state s at t to a state v at t + 1
abbrev pub Step : Contents → Choice → ℕ → State → State → Type 0
Step p D t s v = (u : State) × Started p t s u × Served p D t u v
