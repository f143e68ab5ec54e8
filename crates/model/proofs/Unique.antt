-- A plan has at most one verdict.
use Rattle.std.proofs.Common.{◌≡◌, ℕ, suc, ◌-◌, ◌<◌, ◌≤◌, length, sym, ap, ◌∙◌, subst, ap₂, arith}
use native.Mathlib.Decide.{dec_lt}
use Rattle.gather.proofs.Counting.{once_fits}
use Rattle.policy.specs.Laws.{Choice}
use Rattle.plan.specs.Contents.{Contents, Sound}
use Rattle.model.specs.declared.verdicts.Rows.TheVariants.{Working, Marks}
use Rattle.model.specs.declared.verdicts.Verdict.{Verdict}
use Rattle.model.specs.declared.verdicts.Verdict.TheVariants.{Kept, Missed, RowsShort}
use Rattle.model.specs.Units.{State}
use Rattle.model.specs.Runs.{Misses, Marked}
use Rattle.model.specs.Verdicts.{Number, Closes, Passes, Gives, VerdictIs}
use Rattle.model.proofs.Marks.{mark_apart}

number_one : (P : State → Type 0) (m n : ℕ) → Number P m → Number P n → m ≡ n
number_one P m n a b =
    let ab : length a.states ≤ length b.states = once_fits a.states b.states a.once (λ s h. b.all s (a.such s h)) in
    let ba : length b.states ≤ length a.states = once_fits b.states a.states b.once (λ s h. a.all s (b.such s h)) in
    let am : length a.states ≡ m = a.many in
    let bn : length b.states ≡ n = b.many in
    omega arith

module _ (p : Contents) (D : Choice) (w m : ℕ) where
  -- a time that gives a verdict does not pass
  stops : (t : ℕ) (v : Verdict) → Gives p D w m t v → Passes p D w m t → ⊥
  stops t (RowsShort Working e) g b = b.fits g.1
  stops t (Missed e n) g b = b.timely g.2.0 g.2.2
  stops t (Kept k c) g b = b.opens k g.0 g.3
  stops t (RowsShort Marks e) g b = b.holds g.3.0 g.3.1 g.3.3

  same_time : (v v' : Verdict) (a : VerdictIs p D w m v) (b : VerdictIs p D w m v') → a.0 ≡ b.0
  same_time v v' (t, before, g) (e, before', g') = go (dec_lt t e) (dec_lt e t)
    where
      go : Dec (t < e) → Dec (e < t) → t ≡ e
      go (yes h) x = absurd (stops t v g (before' t h))
      go (no h) (yes x) = absurd (stops e v' g' (before e x))
      go (no h) (no x) = omega arith

  lowest_one : (t i j : ℕ) → Misses p D t i → ((x : ℕ) → x < i → ¬ Misses p D t x)
      → Misses p D t j → ((x : ℕ) → x < j → ¬ Misses p D t x) → i ≡ j
  lowest_one t i j a f b g = go (dec_lt i j) (dec_lt j i)
    where
      go : Dec (i < j) → Dec (j < i) → i ≡ j
      go (yes h) x = absurd (g i h a)
      go (no h) (yes x) = absurd (f j x b)
      go (no h) (no x) = omega arith

  gives_one : Sound p → (t : ℕ) (v v' : Verdict) → Gives p D w m t v → Gives p D w m t v' → v ≡ v'
  gives_one ok t (RowsShort Working e) (RowsShort Working e') a b = ap (RowsShort Working) (a.0 ∙ sym b.0)
  gives_one ok t (RowsShort Working e) (Missed e' n') a b = absurd (b.1 a.1)
  gives_one ok t (RowsShort Working e) (Kept k' c') a b = absurd (b.1 a.1)
  gives_one ok t (RowsShort Working e) (RowsShort Marks e') a b = absurd (b.1 a.1)
  gives_one ok t (Missed e n) (RowsShort Working e') a b = absurd (a.1 b.1)
  gives_one ok t (Missed e n) (Missed e' n') a b =
      let x = a.2 in
      let y = b.2 in
      ap₂ Missed (a.0 ∙ sym b.0) (x.1 ∙ ap suc (lowest_one t x.0 y.0 x.2 x.3 y.2 y.3) ∙ sym y.1)
  gives_one ok t (Missed e n) (Kept k' c') a b = absurd (b.2 a.2.0 a.2.2)
  gives_one ok t (Missed e n) (RowsShort Marks e') a b = absurd (b.2 a.2.0 a.2.2)
  gives_one ok t (Kept k c) (RowsShort Working e') a b = absurd (a.1 b.1)
  gives_one ok t (Kept k c) (Missed e' n') a b = absurd (a.2 b.2.0 b.2.2)
  gives_one ok t (Kept k c) (Kept k' c') a b =
      let e : k ≡ k' = mark_apart p ok k k' (sym a.0 ∙ b.0) in
      ap₂ Kept e (number_one (Marked p D (k' - 1)) c c' (subst (λ (x : ℕ). Number (Marked p D (x - 1)) c) e a.4) b.4)
  gives_one ok t (Kept k c) (RowsShort Marks e') a b =
      let y = b.3 in
      let e : k ≡ y.0 = mark_apart p ok k y.0 (sym a.0 ∙ y.1) in
      absurd (y.2 (subst (Closes p D) e a.3))
  gives_one ok t (RowsShort Marks e) (RowsShort Working e') a b = absurd (a.1 b.1)
  gives_one ok t (RowsShort Marks e) (Missed e' n') a b = absurd (a.2 b.2.0 b.2.2)
  gives_one ok t (RowsShort Marks e) (Kept k' c') a b =
      let x = a.3 in
      let e : k' ≡ x.0 = mark_apart p ok k' x.0 (sym b.0 ∙ x.1) in
      absurd (x.2 (subst (Closes p D) e b.3))
  gives_one ok t (RowsShort Marks e) (RowsShort Marks e') a b = ap (RowsShort Marks) (a.0 ∙ sym b.0)

  pub verdict_one : Sound p → (v v' : Verdict) → VerdictIs p D w m v → VerdictIs p D w m v' → v ≡ v'
  verdict_one ok v v' a b = gives_one ok b.0 v v' (subst (λ (t : ℕ). Gives p D w m t v) (same_time v v' a b) a.2) b.2
