-- Whether joins lead from one handler of a plan to another is decided: joins run in no circle, so no chain has more of them than the plan has handlers.
use Rattle.std.proofs.Common.{◌≡◌, ℕ, zero, suc, ◌+◌, ◌<◌, ◌≤◌, true, ◌⊎◌, List, [], ◌∷◌, length, subst, inl, inr, arith}
use mathlib.Core.Bool.{Bool-discrete}
use mathlib.Core.Logic.Dec
use Rattle.std.specs.List.{range_with_len, Contains as Has}
use Rattle.std.proofs.lemmas.List.FromFn.{length-range_with_len}
use Rattle.gather.specs.Levels.{Once}
use Rattle.gather.proofs.Counting.{has_cases, once_fits}
use Rattle.plan.specs.Contents.{Contents, Sound, count}
use Rattle.plan.specs.Joins.{Chain, one, more}
use Rattle.plan.proofs.Chains.{chain_more}
use Rattle.model.proofs.Deciding.{least}
use Rattle.model.proofs.Lists.{has_none, once_none, once_cons, has_counting}

pub dec_either : {A B : Type 0} → Dec A → Dec B → Dec (A ⊎ B)
dec_either (yes a) y = yes (inl a)
dec_either (no a) (yes b) = yes (inr b)
dec_either (no a) (no b) = no (λ x. elim x [ inl p ↦ a p | inr q ↦ b q ])

module _ (k : Contents) (ok : Sound k) where
  -- at most n joins lead from a to b, and at least one
  Steps : ℕ → ℕ → ℕ → Type 0
  Steps zero a b = ⊥
  Steps (suc n) a b = (k.joined a b ≡ true) ⊎ ((c : ℕ) × (k.joined a c ≡ true) × Steps n c b)

  steps_decided : (n a b : ℕ) → Dec (Steps n a b)
  unfolding Steps
  steps_decided zero a b = no (λ s. s)
  steps_decided (suc n) a b = dec_either (Bool-discrete (k.joined a b) true) (go (least By (λ c. Dec.and (Bool-discrete (k.joined a c) true) (steps_decided n c b)) (count k)))
    where
      By : ℕ → Type 0
      By c = (k.joined a c ≡ true) × Steps n c b

      go : ((c : ℕ) → c < count k → ¬ By c) ⊎ ((c : ℕ) × By c × ((d : ℕ) → d < c → ¬ By d)) → Dec ((c : ℕ) × (k.joined a c ≡ true) × Steps n c b)
      go (inl none) = no (λ s. none s.0 (ok.inside a s.0 s.1).1 (s.1, s.2))
      go (inr s) = yes (s.0, s.1.0, s.1.1)

  chain_of_steps : (n a b : ℕ) → Steps n a b → Chain k.joined a b
  unfolding Steps
  chain_of_steps zero a b s = absurd s
  chain_of_steps (suc n) a b (inl j) = one j
  chain_of_steps (suc n) a b (inr s) = more s.1 (chain_of_steps n s.0 b s.2)

  -- the places that a chain has come by on its way to a
  record Behind (a : ℕ) (seen : List ℕ) : Type 0 where
    once : Once seen
    low : (x : ℕ) → Has seen x → x < count k
    leads : (x : ℕ) → Has seen x → Chain k.joined x a

  module _ (a : ℕ) (seen : List ℕ) (behind : Behind a seen) where
    -- a itself is not one of them
    here_once : Once (a ∷ seen)
    here_once = once_cons a seen (λ h. ok.no_circle a (behind.leads a h)) behind.once

    here_low : a < count k → (x : ℕ) → Has (a ∷ seen) x → x < count k
    here_low l x h = elim (has_cases a x seen h) [ inl e ↦ subst (λ y. y < count k) e l | inr m ↦ behind.low x m ]

    go_on : (c : ℕ) → k.joined a c ≡ true → Behind c (a ∷ seen)
    go_on c j = record {
      once = here_once;
      low = here_low (ok.inside a c j).0;
      leads = λ x h. elim (has_cases a x seen h) [ inl e ↦ subst (λ y. Chain k.joined y c) e (one j) | inr m ↦ chain_more (behind.leads x m) j ];
    }

    full : a < count k → count k ≤ length seen → ⊥
    full l le =
        omega (
          arith,
          le,
          length-range_with_len 0 (count k),
          once_fits (a ∷ seen) (range_with_len 0 (count k)) here_once (λ x h. has_counting 0 (count k) x (omega arith) (omega (arith, here_low l x h))),
        )

  steps_of_chain : {a b : ℕ} → Chain k.joined a b → (n : ℕ) (seen : List ℕ) → count k ≤ length seen + n → Behind a seen → Steps n a b
  unfolding Steps
  steps_of_chain {a} (one {b = b} j) zero seen le behind = absurd (full a seen behind (ok.inside a b j).0 (omega (arith, le)))
  steps_of_chain {a} (more {b = c} j rest) zero seen le behind = absurd (full a seen behind (ok.inside a c j).0 (omega (arith, le)))
  steps_of_chain (one j) (suc n) seen le behind = inl j
  steps_of_chain {a} (more {b = c} j rest) (suc n) seen le behind = inr (c, j, steps_of_chain rest n (a ∷ seen) (omega (arith, le)) (go_on a seen behind c j))

  pub chain_decided : (a b : ℕ) → Dec (Chain k.joined a b)
  chain_decided a b =
      Dec.of_iff (
        chain_of_steps (count k) a b,
        λ c. steps_of_chain c (count k) [] (omega arith) (record { once = once_none; low = λ x h. absurd (has_none x h); leads = λ x h. absurd (has_none x h) }),
      )
      (steps_decided (count k) a b)
