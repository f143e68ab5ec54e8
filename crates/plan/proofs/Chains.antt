-- Chains of joins, and what one join more does to them.
use Rattle.std.proofs.Common.{◌≡◌, ℕ, ◌-◌, Bool, true, ◌⊎◌, sym, subst, inl, inr, arith}
use Rattle.plan.specs.Joins.{Chain, one, more, NoCircle}
use Rattle.plan.specs.Contents.{Contents}
use Rattle.plan.specs.Calls.{MayJoin}

-- a and b are one, or joins lead from a to b
abbrev pub Leads : (ℕ → ℕ → Bool) → ℕ → ℕ → Type 0
Leads joined a b = (a ≡ b) ⊎ Chain joined a b

pub chain_more : {joined : ℕ → ℕ → Bool} {a b c : ℕ} → Chain joined a b → joined b c ≡ true → Chain joined a c
chain_more (one h) j = more h (one j)
chain_more (more h p) j = more h (chain_more p j)

module _ (old : ℕ → ℕ → Bool) where
  leads_step : (x z y : ℕ) → old x z ≡ true → Leads old z y → Leads old x y
  leads_step x z y h (inl e) = inr (one (subst (λ a. old x a ≡ true) e h))
  leads_step x z y h (inr p) = inr (more h p)

  leads_join : {x y z : ℕ} → Chain old x y → Leads old y z → Leads old x z
  leads_join {x} {z = z} (one {b = y} h) q = leads_step x y z h q
  leads_join {x} {z = z} (more {b = y} h p) q = leads_step x y z h (leads_join p q)

  leads_on : (x y z : ℕ) → Leads old x y → Leads old y z → Leads old x z
  leads_on x y z (inl e) q = subst (λ a. Leads old a z) (sym e) q
  leads_on x y z (inr p) q = leads_join p q

  module _ (new : ℕ → ℕ → Bool) (i j : ℕ) (only : (x y : ℕ) → new x y ≡ true → (old x y ≡ true) ⊎ ((x ≡ i) × (y ≡ j))) where
    -- a chain over the new joins goes over the old ones, or comes by the one from i to j
    chain_cases : {x y : ℕ} → Chain new x y → Chain old x y ⊎ (Leads old x i × Leads old j y)
    chain_cases (one {a} {b} h) =
        elim (only a b h) [ inl k ↦ inl (one k) | inr q ↦ inr (inl q.0, inl (sym q.1)) ]
    chain_cases (more {a} {b} {c} h p) =
        elim (only a b h) [
          | inl k ↦ (elim (chain_cases p) [ inl m ↦ inl (more k m) | inr m ↦ inr (leads_step a b i k m.0, m.1) ])
          | inr q ↦
              (elim (chain_cases p) [
                | inl m ↦ inr (inl q.0, inr (subst (λ b. Chain old b c) q.1 m))
                | inr m ↦ inr (inl q.0, m.1)
              ])
        ]

    -- the new join closes no circle where nothing led back
    pub still_straight : NoCircle old → ¬ Leads old j i → NoCircle new
    still_straight straight apart x p =
        elim (chain_cases p) [ inl k ↦ straight x k | inr q ↦ apart (leads_on j x i q.1 q.0) ]

-- where no test refuses a join, nothing leads back
pub not_back : (k : Contents) (a b : ℕ) → MayJoin k a b → ¬ Leads k.joined (b - 1) (a - 1)
not_back k a b may (inl e) = may.straight (inl (omega (arith, e, may.known_a.0, may.known_b.0)))
not_back k a b may (inr c) = may.straight (inr c)
