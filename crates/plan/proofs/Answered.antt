-- Two answers to one call are one, and a circle is told by where the joins lead.
use Rattle.std.proofs.Common.{◌≡◌, ℕ, ◌+◌, ◌⊎◌, Err, Result, sym, ap, ◌∙◌, inl, inr}
use Rattle.plan.specs.declared.handlers.Handler.{Handler}
use Rattle.plan.specs.declared.refusals.Refusal.{Refusal}
use Rattle.plan.specs.Contents.{Contents, count}
use Rattle.plan.specs.Calls.{accepts, after, Agree, OneAnswer, Registers, Joins, Reseats, added, with_join, reseated}

-- two answers by the same tests are one
pub one_answer : {A E P Q Q' : Type 0} {r s : Result A E} {why : E} → (Q → Q' → s ≡ r)
    → (P × (r ≡ Err why)) ⊎ ((P → ⊥) × Q) → (P × (s ≡ Err why)) ⊎ ((P → ⊥) × Q') → s ≡ r
one_answer go (inl x) (inl y) = y.1 ∙ sym x.1
one_answer go (inl x) (inr y) = absurd (y.0 x.0)
one_answer go (inr x) (inl y) = absurd (x.0 y.0)
one_answer go (inr x) (inr y) = go x.1 y.1

accepts_one : {A : Type 0} (x : A) (r s : Result A Refusal) → accepts x r → accepts x s → s ≡ r
accepts_one x r s e f = f ∙ sym e

-- so what they leave is one
leaves_one : {A : Type 0} (k next one other : Contents) (r s : Result A Refusal) → s ≡ r → one ≡ after k next r → other ≡ after k next s → (s ≡ r) × (other ≡ one)
leaves_one k next one other r s e x y = (e, y ∙ ap (after k next) e ∙ sym x)

-- ---- register

module _ (k : Contents) (h : Handler) where
  register_one : Agree (Registers k h)
  register_one r s next other x y =
      leaves_one k (added k h) next other r s
      (one_answer (one_answer (one_answer (one_answer (one_answer (accepts_one (count k + 1) r s))))) x.answers y.answers) x.leaves y.leaves

-- ---- join

module _ (k : Contents) (a b : ℕ) where
  join_one : Agree (Joins k a b)
  join_one r s next other x y =
      leaves_one k (with_join k a b) next other r s (one_answer (one_answer (one_answer (accepts_one tt r s))) x.answers y.answers) x.leaves y.leaves

-- ---- reseat

module _ (k : Contents) (n c : ℕ) where
  reseat_one : Agree (Reseats k n c)
  reseat_one r s next other x y =
      leaves_one k (reseated k n c) next other r s (one_answer (one_answer (accepts_one tt r s)) x.answers y.answers) x.leaves y.leaves

pub one_answer_each : OneAnswer
one_answer_each = record { register = register_one; join = join_one; reseat = reseat_one }
