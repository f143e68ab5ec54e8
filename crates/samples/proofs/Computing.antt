-- A check whose verdict is computed.
use Rattle.std.proofs.Common.{◌≡◌, ℕ, ◌≤◌, List, [], Ok, refl, inl, inr, arith}
use Rattle.std.specs.Prelude.{Some}
use Rattle.std.proofs.lemmas.List.{length-replicate}
use Rattle.policy.specs.declared.codes.Code.{Code}
use Rattle.policy.specs.Codes.{coded}
use Rattle.plan.specs.Contents.{Contents, Sound}
use Rattle.model.specs.declared.verdicts.Verdict.{Verdict}
use Rattle.samples.proofs.Evaluate.{asked, verdict_by}
use Rattle.samples.proofs.Outcomes.{computed_verdict}
use Rattle.samples.proofs.Unit.{asked_answers}
use Rattle.model.specs.Checks.{Tables, Unfit, most_rows, Checks}
use Rattle.model.proofs.Answering.{tables, check_finds}
use Rattle.model.proofs.MarkRows.{row_of}

-- two working tables of w rows, and a mark table of m
abbrev pub lent : ℕ → ℕ → Tables
lent w m = tables w w m

-- the first verdict within twenty units
module _ (k : Contents) (ok : Sound k) (codes : List Code) (w m : ℕ) (fits_w : w ≤ most_rows) (fits_m : m ≤ most_rows)
    (v : Verdict) (computed : verdict_by k (asked k codes) w m 20 0 ≡ Some v) where
  fits : ¬ Unfit (lent w m)
  fits (inl n) = n refl
  fits (inr (inl l)) = omega (arith, l, fits_w, length-replicate w (row_of []))
  fits (inr (inr (inl l))) = omega (arith, l, fits_w, length-replicate w (row_of []))
  fits (inr (inr (inr l))) = omega (arith, l, fits_m, length-replicate m (row_of []))

  pub found : (is : Tables) × Checks k (coded codes) (lent w m) (Ok v) is
  found =
      check_finds k ok (coded codes) (lent w m) fits v
      (rw (length-replicate w (row_of []), length-replicate m (row_of []))
      (computed_verdict k (coded codes) ok (asked k codes) (asked_answers k codes ok) w m 20 v computed))
