-- A verdict on few rows is the verdict on more of them, unless the rows are short.
use Rattle.std.proofs.Common.{ℕ, ◌≤◌, arith}
use Rattle.policy.specs.Laws.{Choice}
use Rattle.plan.specs.Contents.{Contents}
use Rattle.model.specs.declared.verdicts.Verdict.{Verdict}
use Rattle.model.specs.declared.verdicts.Verdict.TheVariants.{Kept, Missed, RowsShort}
use Rattle.model.specs.Runs.{StateAt, Marked}
use Rattle.model.specs.Units.{State}
use Rattle.model.specs.Verdicts.{Outnumber, Passes, VerdictIs}

-- no rows are short
abbrev pub Final : Verdict → Type 0
Final (Kept k c) = Unit {0}
Final (Missed t n) = Unit {0}
Final (RowsShort rows t) = ⊥

outnumber_fewer : (P : State → Type 0) (n m : ℕ) → n ≤ m → Outnumber P m → Outnumber P n
outnumber_fewer P n m le o = record {
  states = o.states;
  once = o.once;
  such = o.such;
  many = omega (arith, le, o.many);
}

module _ (p : Contents) (D : Choice) (w m rows marks : ℕ) (le : w ≤ rows) (few : m ≤ marks) where
  fits_more : (t : ℕ) → ¬ Outnumber (StateAt p D t) w → ¬ Outnumber (StateAt p D t) rows
  fits_more t fits o = fits (outnumber_fewer (StateAt p D t) w rows le o)

  passes_more : (t : ℕ) → Passes p D w m t → Passes p D rows marks t
  passes_more t x = record {
    fits = fits_more t x.fits;
    timely = x.timely;
    opens = x.opens;
    holds = λ k is o. x.holds k is (outnumber_fewer (Marked p D k) m marks few o);
  }

  pub verdict_more : (v : Verdict) → Final v → VerdictIs p D w m v → VerdictIs p D rows marks v
  verdict_more (Kept k c) final (t, before, g) =
      (t, λ e l. passes_more e (before e l), (g.0, fits_more t g.1, g.2, g.3, g.4))
  verdict_more (Missed e n) final (t, before, g) =
      (t, λ u l. passes_more u (before u l), (g.0, fits_more t g.1, g.2))
  verdict_more (RowsShort kind e) final x = absurd final
