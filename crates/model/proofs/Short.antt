-- A check answers rows short exactly where rows run short, and names the first such table and time.
use Rattle.std.proofs.Common.{◌≡◌, ℕ, ◌<◌, ◌≤◌, length, sym, refl, ◌∙◌, subst, inl, inr, arith}
use Rattle.std.proofs.lemmas.Bool.{cases_lt}
use Rattle.policy.specs.Laws.{Choice}
use Rattle.plan.specs.Contents.{Contents, Sound}
use Rattle.model.specs.declared.verdicts.Rows.{Rows}
use Rattle.model.specs.declared.verdicts.Rows.TheVariants.{Working, Marks}
use Rattle.model.specs.declared.verdicts.Verdict.{Verdict}
use Rattle.model.specs.declared.verdicts.Verdict.TheVariants.{Kept, Missed, RowsShort}
use Rattle.model.specs.Runs.{StateAt}
use Rattle.model.specs.Verdicts.{Outnumber, Closes, Passes, VerdictIs}
use Rattle.model.proofs.Marks.{mark_apart}
use Rattle.model.specs.Checks.{Tables}
use Rattle.model.specs.Outcomes.{TooFew, EndsAt, RunsShort, turn, ShortExactly}

module _ (p : Contents) (D : Choice) (ok : Sound p) (x : Tables) where
  -- the time gives no verdict
  abbrev Quiet : ℕ → Type 0
  Quiet = Passes p D (length x.front) (length x.marks)

  abbrev Crowded : ℕ → Type 0
  Crowded t = Outnumber (StateAt p D t) (length x.front)

  quiet_enough : (rows : Rows) (t : ℕ) → Quiet t → ¬ TooFew p D x rows t
  quiet_enough Working t q f = q.fits f
  quiet_enough Marks t q f = q.holds f.0 f.1 f.2

  quiet_open : (t : ℕ) → Quiet t → ¬ EndsAt p D t
  quiet_open t q (inl m) = q.timely m.0 m.1
  quiet_open t q (inr c) = q.opens c.0 c.1 c.2

  -- the first time that gives a verdict
  module _ (first : ℕ) (before : (e : ℕ) → e < first → Quiet e) where
    not_sooner : (rows : Rows) (t : ℕ) → TooFew p D x rows t → first ≤ t
    not_sooner rows t f = elim (cases_lt t first) [ inl l ↦ absurd (quiet_enough rows t (before t l) f) | inr g ↦ g ]

    -- where it gives another verdict, rows never run short
    none_short : ¬ Crowded first → EndsAt p D first → (rows : Rows) (t : ℕ) → ¬ RunsShort p D x rows t
    none_short room ends Marks t s = s.before first (not_sooner Marks t s.few) ends
    none_short room ends Working t s =
        elim (cases_lt first t) [
          | inl l ↦ s.before first l ends
          | inr g ↦ (let e : t ≡ first = omega (arith, g, not_sooner Working t s.few) in room (subst Crowded e s.few))
        ]

    -- the working rows are enough, if the mark rows are tested then
    abbrev Room : Rows → Type 0
    Room Working = Unit {0}
    Room Marks = ¬ Crowded first

    -- where it gives rows short, no rows run short sooner
    none_first : (rows other : Rows) (t e : ℕ) → t ≡ first → Room rows → TooFew p D x other e → turn rows t ≤ turn other e
    none_first Working Working t e q room f = omega (arith, q, not_sooner Working e f)
    none_first Working Marks t e q room f = omega (arith, q, not_sooner Marks e f)
    none_first Marks Marks t e q room f = omega (arith, q, not_sooner Marks e f)
    none_first Marks Working t e q room f =
        elim (cases_lt first e) [
          | inl l ↦ omega (arith, q, l)
          | inr g ↦ (let same : e ≡ first = omega (arith, g, not_sooner Working e f) in absurd (room (subst Crowded same f)))
        ]

  abbrev Is : Verdict → Type 0
  Is = VerdictIs p D (length x.front) (length x.marks)

  short_so : (rows : Rows) (t : ℕ) → Is (RowsShort rows t) → RunsShort p D x rows t
  short_so Working t (first, before, (same, few)) = record {
    few = subst Crowded (sym same) few;
    before = λ e l. quiet_open e (before e (omega (arith, l, same)));
  }
  short_so Marks t (first, before, (same, room, timely, (k, at_mark, opens, few))) = record { few = (k, same ∙ at_mark, few); before = not_before }
    where
      at_first : ¬ EndsAt p D first
      at_first (inl m) = timely m.0 m.1
      at_first (inr c) = opens (subst (Closes p D) (mark_apart p ok c.0 k (sym c.1 ∙ at_mark)) c.2)

      not_before : (e : ℕ) → e ≤ t → ¬ EndsAt p D e
      not_before e l =
          elim (cases_lt e first) [
            | inl b ↦ quiet_open e (before e b)
            | inr g ↦ (let q : first ≡ e = omega (arith, l, g, same) in subst (λ t. ¬ EndsAt p D t) q at_first)
          ]

  so_short : (v : Verdict) → Is v → (rows : Rows) × (t : ℕ) × RunsShort p D x rows t → (rows : Rows) × (t : ℕ) × (v ≡ RowsShort rows t)
  so_short (RowsShort rows t) is s = (rows, t, refl)
  so_short (Missed t n) (first, before, (same, room, (i, number, misses, lowest))) (rows, e, s) = absurd (none_short first before room (inl (i, misses)) rows e s)
  so_short (Kept k c) (first, before, (at_mark, room, timely, closes, number)) (rows, e, s) = absurd (none_short first before room (inr (k, at_mark, closes)) rows e s)

  is_first : (rows other : Rows) (t e : ℕ) → Is (RowsShort rows t) → RunsShort p D x other e → turn rows t ≤ turn other e
  is_first Working other t e is s = none_first is.0 is.1 Working other t e is.2.0 tt s.few
  is_first Marks other t e is s = none_first is.0 is.1 Marks other t e is.2.0 is.2.1 s.few

  pub exact : (v : Verdict) → Is v → ShortExactly p D x v
  exact v is = record {
    when = (λ s. (s.0, s.1, short_so s.0 s.1 (subst Is s.2 is)), so_short v is);
    such = λ rows t e. short_so rows t (subst Is e is);
    first = λ rows other t e q s. is_first rows other t e (subst Is q is) s;
  }
