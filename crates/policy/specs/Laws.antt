-- The laws of criteria and of disciplines, over what they mean: the answer to each question.
use Rattle.std.specs.Prelude.{◌≡◌, ℕ, ◌+◌, ◌≤◌, Bool, true, not}
use Rattle.std.specs.Int.{◌∣◌}
use Rattle.policy.specs.declared.cores.Core.{Core}
use Rattle.policy.specs.declared.candidates.Candidate.{Candidate}
use Rattle.std.specs.declared.cmp.Ordering.{Ordering}
use Rattle.std.specs.Ordering.{is_le, ordering_reverse}

-- what a criterion means: how the first candidate ranks against the second, on a core at a time
abbrev pub Ranking : Type 0
Ranking = Core → Candidate → Candidate → ℕ → Ordering

-- what a discipline means: whether the first candidate goes before the second, on a core at a time
abbrev pub Choice : Type 0
Choice = Core → Candidate → Candidate → ℕ → Bool

-- both are released by t, and p is a multiple of both periods
pub record Recurs (a b : Candidate) (t p : ℕ) : Type 0 where
  pub began_a : a.offset ≤ t
  pub began_b : b.offset ≤ t
  pub whole_a : a.period ∣ p
  pub whole_b : b.period ∣ p

-- the ranks of a criterion: exchanging the two reverses them, they chain, and they repeat
pub record IsLawfulRanking (ranks : Ranking) : Type 0 where
  pub reverses : (k : Core) (a b : Candidate) (t : ℕ) → ranks k b a t ≡ ordering_reverse (ranks k a b t)
  pub carries : (k : Core) (a b d : Candidate) (t : ℕ) → is_le (ranks k a b t) ≡ true → is_le (ranks k b d t) ≡ true → is_le (ranks k a d t) ≡ true
  pub repeats : (k : Core) (a b : Candidate) (t p : ℕ) → Recurs a b t p → ranks k a b (t + p) ≡ ranks k a b t

-- they have different numbers
abbrev pub Apart : Candidate → Candidate → Type 0
Apart a b = a.number ≡ b.number → ⊥

-- of two with different numbers it names the same one either way round, going first carries over, and choices repeat
pub record IsLawfulChoice (first : Choice) : Type 0 where
  pub reverses : (k : Core) (a b : Candidate) (t : ℕ) → Apart a b → first k b a t ≡ not (first k a b t)
  pub carries : (k : Core) (a b d : Candidate) (t : ℕ) → Apart a b → Apart b d → Apart a d → first k a b t ≡ true → first k b d t ≡ true → first k a d t ≡ true
  pub repeats : (k : Core) (a b : Candidate) (t p : ℕ) → Apart a b → Recurs a b t p → first k a b (t + p) ≡ first k a b t
