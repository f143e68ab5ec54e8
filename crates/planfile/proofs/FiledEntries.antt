-- Reading and entering one record: each has one answer.
use Rattle.std.proofs.Common.{◌≡◌, ℕ, List, Some, None, Option, Ok, Err, Result, sym, refl, ap, ◌∙◌, inl, inr}
use Rattle.plan.specs.Contents.{Contents}
use Rattle.plan.proofs.Answered.{one_answer, one_answer_each}
use Rattle.planfile.specs.declared.faults.Cause.{Cause}
use Rattle.planfile.specs.declared.faults.Fault.{Fault}
use Rattle.planfile.specs.declared.records.Record.{Record}
use Rattle.planfile.specs.declared.records.Record.TheVariants.{Handler as HandlerRecord, Join as JoinRecord, Core as CoreRecord, End}
use Rattle.planfile.specs.Tests.{Standing, NextIs, of_plan, CodeEnters, Enters}

pub next_one : (bytes : List ℕ) (s : Standing) (r t : Result (Option Record) Fault) → NextIs bytes s r → NextIs bytes s t → t ≡ r
next_one bytes s r t (inl x) (inl y) = one_answer (λ e f. f ∙ sym e) x.1 y.1
next_one bytes s r t (inl x) (inr y) = absurd (y.0 x.0)
next_one bytes s r t (inr x) (inl y) = absurd (x.0 y.0)
next_one bytes s r t (inr x) (inr y) = one_answer (one_answer (one_answer (one_answer (one_answer (λ e f. f ∙ sym e))))) x.1 y.1

pub ok_one : (x y : Record) → ◌≡◌ {A = Result (Option Record) Fault} (Ok (Some y)) (Ok (Some x)) → y ≡ x
ok_one x y e = ap (λ (r : Result (Option Record) Fault). elim r [ Ok o ↦ elim o [ Some a ↦ a | None ↦ x ] | Err e ↦ x ]) e

pub err_one : {A E : Type 0} (x y : E) → ◌≡◌ {A = Result A E} (Err y) (Err x) → y ≡ x
err_one {A} {E} x y e = ap (λ (r : Result A E). elim r [ Ok a ↦ x | Err f ↦ f ]) e

-- what entering answers, and the plan and the codes after it, are one
code_one : (codes : List ℕ) (c : ℕ) (r s : Result (Unit {0}) Cause) (more others : List ℕ) → CodeEnters codes c r more → CodeEnters codes c s others
    → (s ≡ r) × (others ≡ more)
code_one codes c (Ok x) (Ok y) more others m n = (refl, n.1 ∙ sym m.1)
code_one codes c (Ok x) (Err f) more others m n = absurd (n.0 m.0)
code_one codes c (Err e) (Ok y) more others m n = absurd (m.0 n.0)
code_one codes c (Err e) (Err f) more others m n = (ap Err (n.1 ∙ sym m.1), n.2 ∙ sym m.2)

module _ (k : Contents) (codes : List ℕ) (r s : Result (Unit {0}) Cause) (next other : Contents) (more others : List ℕ) where
  pub enters_one : (entry : Record) → Enters k codes entry r next more → Enters k codes entry s other others → (s ≡ r) × (other ≡ next) × (others ≡ more)
  enters_one (HandlerRecord h) m n =
      let one = one_answer_each.register k h m.0 n.0 next other m.1 n.1 in (n.2 ∙ ap of_plan one.0 ∙ sym m.2, one.1, n.3 ∙ sym m.3)
  enters_one (JoinRecord a b) m n =
      let one = one_answer_each.join k a b m.0 n.0 next other m.1 n.1 in (n.2 ∙ ap of_plan one.0 ∙ sym m.2, one.1, n.3 ∙ sym m.3)
  enters_one (CoreRecord c code) m n = let one = code_one codes code r s more others m.0 n.0 in (one.0, n.1 ∙ sym m.1, one.1)
  enters_one End m n = (n.0 ∙ sym m.0, n.1 ∙ sym m.1, n.2 ∙ sym m.2)
