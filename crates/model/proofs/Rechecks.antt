-- Two checks of one plan under one discipline, with equal row counts, answer the same.
use Rattle.std.proofs.Common.{◌≡◌, ◌⊎◌, length, Ok, Err, Result, sym, refl, ap, ◌∙◌, subst}
use Rattle.policy.specs.Laws.{Choice}
use Rattle.plan.specs.declared.refusals.Refusal.{Refusal}
use Rattle.plan.specs.declared.refusals.Refusal.TheVariants.{UnfitTables}
use Rattle.plan.specs.Contents.{Contents, Sound}
use Rattle.model.specs.declared.verdicts.Verdict.{Verdict}
use Rattle.model.proofs.Unique.{verdict_one}
use Rattle.model.specs.Checks.{Tables, Unfit, Judges, Checks}
use Rattle.plan.proofs.Answered.{one_answer}

module _ (k : Contents) (ok : Sound k) (D : Choice) (was is other left : Tables) (r s : Result Verdict Refusal)
    (front : length was.front ≡ length other.front) (back : length was.back ≡ length other.back) (marks : length was.marks ≡ length other.marks) where
  judges_one : Judges k D was r → Judges k D other s → r ≡ s
  judges_one (v, a, e) (w, b, f) =
      let same : v ≡ w = verdict_one k D (length was.front) (length was.marks) ok v w a (rw (front, marks) b) in
      e ∙ ap Ok same ∙ sym f

  fit_one : Unfit other ≡ Unfit was
  fit_one = rw (front, back, marks) refl

  pub checks_one : Checks k D was r is → Checks k D other s left → r ≡ s
  checks_one x y = sym (one_answer (λ a b. sym (judges_one a b)) x.answers (subst (λ P. (P × (s ≡ Err UnfitTables)) ⊎ ((P → ⊥) × Judges k D other s)) fit_one y.answers))
