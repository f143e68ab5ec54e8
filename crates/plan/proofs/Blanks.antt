-- A new plan: blank rows, and a table of no joins.
use Rattle.std.proofs.Common.{◌≡◌, ℕ, zero, suc, true, false, [], length, get_or, replicate, sym, refl, ap, ◌∙◌, true≢false}
use Rattle.std.proofs.lemmas.List.{get_or-replicate, length-replicate}
use Rattle.plan.specs.Joins.{joined_in, Chain, one, more, Wide}

pub blank_row : {A : Type 0} (n i : ℕ) (d : A) → get_or (replicate n d) i d ≡ d
blank_row zero i d = refl
blank_row (suc n) zero d = refl
blank_row (suc n) (suc i) d = blank_row n i d

none_in : (n m a b : ℕ) → joined_in (replicate n (replicate m false)) a b ≡ false
none_in zero m a b = refl
none_in (suc n) m zero b = blank_row m b false
none_in (suc n) m (suc a) b = none_in n m a b

pub none_joined : (a b : ℕ) → joined_in (replicate 64 (replicate 64 false)) a b ≡ false
none_joined a b = none_in 64 64 a b

pub not_joined : {A : Type 0} (a b : ℕ) → joined_in (replicate 64 (replicate 64 false)) a b ≡ true → A
not_joined a b j = absurd (true≢false (sym j ∙ none_joined a b))

pub no_chain : {a b : ℕ} → Chain (joined_in (replicate 64 (replicate 64 false))) a b → ⊥
no_chain (one {a} {b} j) = not_joined a b j
no_chain (more {a} {b} j p) = not_joined a b j

pub all_wide : Wide (replicate 64 (replicate 64 false))
all_wide a lt = ap length (get_or-replicate 64 a (replicate 64 false) [] lt) ∙ length-replicate 64 false
