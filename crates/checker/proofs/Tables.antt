-- What a check answers and leaves, where its tables are lent rows.
use Rattle.std.proofs.Common.{◌≡◌, ◌≤◌, true, List, length, take, drop, Ok, refl, ap, ◌∙◌, inl, inr, arith}
use Rattle.std.proofs.lemmas.List.{length-take-le}
use Rattle.std.specs.declared.cmp.PartialEq.{Ghosts as Equals}
use Rattle.gather.specs.declared.Element.{Ghosts as Filed}
use Rattle.gather.specs.declared.indexed.Indexed.{Indexed}
use Rattle.gather.specs.Indexes.{Emptied, Extended}
use Rattle.policy.specs.Laws.{Choice}
use Rattle.plan.specs.declared.refusals.Refusal.TheVariants.{UnfitTables}
use Rattle.plan.specs.Contents.{Contents}
use Rattle.plan.specs.Calls.{refuses}
use Rattle.model.specs.declared.verdicts.Verdict.{Verdict}
use Rattle.model.specs.declared.verdicts.Verdict.TheVariants.{Kept, Missed, RowsShort}
use Rattle.model.specs.Verdicts.{VerdictIs}
use Rattle.model.specs.declared.states.State.{State}
use Rattle.model.specs.Checks.{Tables, most_rows, Unfit, Judges, MarksAfter, KeptRows}
use Rattle.checker.specs.Walks.{is_kept}

module _ (p : Contents) (D : Choice) where
  pub judged : (x : Tables) (v : Verdict) → length x.front ≡ length x.back → length x.front ≤ most_rows → length x.marks ≤ most_rows
      → VerdictIs p D (length x.front) (length x.marks) v → refuses (Unfit x) UnfitTables (Judges p D x) (Ok v)
  judged x v same few low is = inr (fit, (v, is, refl))
    where
      fit : Unfit x → ⊥
      fit (inl e) = e same
      fit (inr (inl e)) = omega (arith, e, few)
      fit (inr (inr (inl e))) = omega (arith, e, few, same)
      fit (inr (inr (inr e))) = omega (arith, e, low)

  module _ (was is : List State) {E : Filed State} {P : Equals State} (old new : Indexed State E P) (before : old.rows.now ≡ was) where
    pub marks_after : (v : Verdict) → KeptRows p D v (take new.count new.rows.now) → (is_kept v ≡ true → (s : Indexed State E P) × Emptied old s × Extended s new) → (is_kept v ≡ true → is ≡ new.rows.now) → MarksAfter p D v was is
    marks_after (Kept k c) kept frame after =
        let f = frame refl in
        let so_many : new.count ≡ c = omega (arith, kept.0, length-take-le new.count new.rows.now new.few) in
        let rest : drop new.count new.rows.now ≡ drop new.count was = f.2.rest ∙ ap (drop new.count) (f.1.rows ∙ before) in
        rw (after refl, ← so_many) (record { fits = new.few; marks = kept.1; rest = rest })
    marks_after (Missed t n) kept frame after = tt
    marks_after (RowsShort rows t) kept frame after = tt
