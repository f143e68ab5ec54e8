-- A check of a sample whose verdict is known finds that verdict.
use Rattle.std.proofs.Common.{◌≡◌, List, Ok, Result, sym, ap, ◌∙◌, subst, inl, inr, arith}
use Rattle.std.proofs.lemmas.List.{length-take-le}
use Rattle.policy.specs.Laws.{Choice}
use Rattle.plan.specs.declared.refusals.Refusal.{Refusal}
use Rattle.plan.specs.declared.refusals.Refusal.TheVariants.{UnfitTables}
use Rattle.policy.specs.Codes.{coded}
use Rattle.plan.specs.Contents.{Contents}
use Rattle.plan.specs.Calls.{refuses}
use Rattle.model.specs.declared.verdicts.Verdict.{Verdict}
use Rattle.model.specs.declared.verdicts.Verdict.TheVariants.{Kept, Missed, RowsShort}
use Rattle.model.specs.declared.states.State.{State}
use Rattle.samples.specs.declared.Sample.{Sample}
use Rattle.samples.specs.Plans.{Known, plan_of}
use Rattle.model.specs.Checks.{Tables, Unfit, Judges, Checks, MarksAfter, TablesAfter, KeptRows}
use Rattle.account.specs.Accounts.{SizedFor, counted, FindsKnown}

counted_marks : (p : Contents) (D : Choice) (v : Verdict) (was is : List State) → MarksAfter p D v was is → KeptRows p D v (counted v is)
counted_marks p D (Kept k c) was is m = (length-take-le c is m.fits, m.marks)
counted_marks p D (Missed t n) was is m = tt
counted_marks p D (RowsShort r t) was is m = tt

module _ (x : Sample) (known : Known x) (was is : Tables) (sized : SizedFor x was) where
  fits : Unfit was → ⊥
  fits (inl e) = e (sized.front ∙ sym sized.back)
  fits (inr (inl e)) = omega (arith, e, sized.front, sized.few)
  fits (inr (inr (inl e))) = omega (arith, e, sized.back, sized.few)
  fits (inr (inr (inr e))) = omega (arith, e, sized.marks, sized.low)

  finds : (r : Result Verdict Refusal) → refuses (Unfit was) UnfitTables (Judges (plan_of x) (coded x.codes) was) r → r ≡ Ok x.verdict
  finds r (inl refused) = absurd (fits refused.0)
  finds r (inr (fit, (v, is_it, answered))) = answered ∙ ap Ok (known.only v (rw (← sized.front, ← sized.marks) is_it))

  -- under whatever names the plan and the choice come
  pub finds_known : (p : Contents) (D : Choice) → p ≡ plan_of x → D ≡ coded x.codes
      → (r : Result Verdict Refusal) → Checks p D was r is → FindsKnown x r is.marks
  finds_known p D same codes r checks =
      let here = subst (λ E. Checks (plan_of x) E was r is) codes (subst (λ q. Checks q D was r is) same checks) in
      let found = finds r here.answers in
      let left = subst (λ q. TablesAfter (plan_of x) (coded x.codes) q was is) found here.leaves in
      record { verdict = found; marks = counted_marks (plan_of x) (coded x.codes) x.verdict was.marks is.marks left }
