-- On each core with a ready handler exactly one runs.
use Rattle.std.proofs.Common.{◌≡◌, ℕ, zero, suc, ◌<◌, ◌≤◌, ◌≢◌, ◌⊎◌, sym, refl, ◌∙◌, subst, inl, inr, arith}
use mathlib.Core.Logic.Dec
use native.Mathlib.Decide.{ℕ_discrete}
use Rattle.policy.specs.Laws.{Choice, IsLawfulChoice}
use Rattle.plan.specs.Contents.{Contents, Sound, count, at}
use Rattle.model.specs.Units.{State, Ready, GoesBefore, Running}
use Rattle.model.specs.Theorems.{OneRuns}
use Rattle.model.proofs.Asking.{before_decided, before_turns, before_carries, before_not_both}
use Rattle.model.proofs.Deciding.{ready_decided}

module _ (p : Contents) (D : Choice) (t : ℕ) (u : State) (c : ℕ) where
  abbrev Wants : ℕ → Type 0
  Wants j = ((at p j).core ≡ c) × Ready p u j

  -- of the places below n, the ready one on the core that goes before every other such
  record First (n r : ℕ) : Type 0 where
    low : r < n
    wants : Wants r
    first : (j : ℕ) → j < n → j ≢ r → Wants j → GoesBefore p D t r j

  abbrev Found : ℕ → Type 0
  Found n = ((r : ℕ) × First n r) ⊎ ((j : ℕ) → j < n → ¬ Wants j)

  module _ (ok : Sound p) (law : IsLawfulChoice D) where
    find : (n : ℕ) → n ≤ count p → Found n
    find zero le = inr (λ j h. absurd (omega arith))
    find (suc n) le = go (find n (omega arith)) (Dec.and (ℕ_discrete (at p n).core c) (ready_decided p ok u n))
      where
        go : Found n → Dec (Wants n) → Found (suc n)
        go (inr f) (no w) = inr (λ j h x. none j h x (ℕ_discrete j n))
          where
            none : (j : ℕ) → j < suc n → Wants j → Dec (j ≡ n) → ⊥
            none j h x (yes e) = w (subst Wants e x)
            none j h x (no e) = f j (omega arith) x
        go (inr f) (yes w) = inl (n, record { low = omega arith; wants = w; first = λ j h e x. absurd (f j (omega arith) x) })
        go (inl (r, q)) (no w) =
            let l : r < n = q.low in
            inl (r, record { low = omega arith; wants = q.wants; first = λ j h e x. still j h e x (ℕ_discrete j n) })
          where
            still : (j : ℕ) → j < suc n → j ≢ r → Wants j → Dec (j ≡ n) → GoesBefore p D t r j
            still j h e x (yes d) = absurd (w (subst Wants d x))
            still j h e x (no d) = q.first j (omega arith) e x
        go (inl (r, q)) (yes w) =
            let l : r < n = q.low in
            pick (before_decided p D ok t r n (omega arith) (omega arith))
          where
            pick : Dec (GoesBefore p D t r n) → Found (suc n)
            pick (yes b) =
                let l : r < n = q.low in
                inl (r, record { low = omega arith; wants = q.wants; first = λ j h e x. still j h e x (ℕ_discrete j n) })
              where
                still : (j : ℕ) → j < suc n → j ≢ r → Wants j → Dec (j ≡ n) → GoesBefore p D t r j
                still j h e x (yes d) = subst (GoesBefore p D t r) (sym d) b
                still j h e x (no d) = q.first j (omega arith) e x
            pick (no b) = inl (n, record { low = omega arith; wants = w; first = λ j h e x. over j h e x (ℕ_discrete j r) })
              where
                n_r : n ≢ r
                n_r = let l : r < n = q.low in omega arith

                before_r : GoesBefore p D t n r
                before_r =
                    let l : r < n = q.low in
                    before_turns p D ok law t r n (omega arith) (omega arith) n_r (w.0 ∙ sym q.wants.0) b

                over : (j : ℕ) → j < suc n → j ≢ n → Wants j → Dec (j ≡ r) → GoesBefore p D t n j
                over j h e x (yes d) = subst (GoesBefore p D t n) (sym d) before_r
                over j h e x (no d) =
                    before_carries p D law t n r j n_r (λ z. d (sym z)) (λ z. e (sym z)) (w.0 ∙ sym q.wants.0)
                    before_r (q.first j (omega arith) d x)

pub one_runs : OneRuns
one_runs p D ok law t u i l w = go (find p D t u (at p i).core ok law (count p) (omega arith))
  where
    go : Found p D t u (at p i).core (count p)
        → (r : ℕ) × (r < count p) × ((at p r).core ≡ (at p i).core) × Running p D t u r
        × ((j : ℕ) → j < count p → (at p j).core ≡ (at p i).core → Running p D t u j → j ≡ r)
    go (inr f) = absurd (f i l (refl, w))
    go (inl (r, q)) = (
      r,
      q.low,
      q.wants.0,
      record { ready = q.wants.1; first = λ j h e k x. q.first j h e (k ∙ q.wants.0, x) },
      λ j h k x. same j h k x (ℕ_discrete j r),
    )
      where
        same : (j : ℕ) → j < count p → (at p j).core ≡ (at p i).core → Running p D t u j → Dec (j ≡ r) → j ≡ r
        same j h k x (yes e) = e
        same j h k x (no e) =
            absurd (before_not_both p D law t r j e (k ∙ sym q.wants.0) (q.first j h e (k, x.ready))
            (x.first r q.low (λ z. e (sym z)) (q.wants.0 ∙ sym k) q.wants.1))
