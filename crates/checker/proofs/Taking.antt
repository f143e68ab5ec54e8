-- Starts with times from a list are starts.
use Rattle.std.proofs.Common.{◌≡◌, ℕ, suc, ◌+◌, ◌-◌, ◌<◌, ◌≤◌, ◌≢◌, List, ◌∷◌, length, get_or, take, drop, set, sym, refl, ap, ◌∙◌, subst, inl, inr, arith}
use Rattle.std.proofs.lemmas.List.{length-set, get_or-set_same, get_or-set_other, get_or-take, get_or-drop, length-take-le, drop_more}
use Rattle.std.proofs.lemmas.Bool.{cases_eq}
use Rattle.plan.specs.declared.handlers.Handler.{Handler}
use Rattle.plan.specs.Contents.{Contents, Sound, count, at, Known}
use Rattle.model.specs.Units.{Starts, Started}
use Rattle.checker.specs.Reaching.{StartsTo}
use Rattle.checker.proofs.Reading.{drop_same}
use Rattle.checker.specs.declared.given.Misfit.{Misfit}
use Rattle.checker.specs.declared.given.Misfit.TheVariants.{Ended, Outside}
use Rattle.checker.specs.Given.{FitsHandler, used_up, RefusesTime, Given, StopsAt, none, rests, takes}

-- what is known of a row by the times that were given
pub record FilledTo (p : Contents) (t : ℕ) (list was : List ℕ) (n : ℕ) (row : List ℕ) (used : ℕ) : Type 0 where
  pub long : length row ≡ length was
  pub few : used ≤ length list
  pub fresh : (i : ℕ) → StartsTo p t n i → FitsHandler (at p i) (get_or row i 0)
  pub same : (i : ℕ) → ¬ StartsTo p t n i → get_or row i 0 ≡ get_or was i 0

module _ (p : Contents) (t : ℕ) (list was : List ℕ) (whole : length was ≡ 64) where
  pub filled : {n used : ℕ} {row : List ℕ} → n ≤ 64 → Given p t list was n row used → FilledTo p t list was n row used
  filled inside none = record { long = refl; few = omega arith; fresh = λ i s. absurd (omega (arith, s.0)); same = λ i k. refl }
  filled inside (rests {n} {used} {row} g lacks) = go (filled (omega arith) g)
    where
      go : FilledTo p t list was n row used → FilledTo p t list was (n + 1) row used
      go f = record {
        long = f.long;
        few = f.few;
        fresh = λ i s. f.fresh i (let ne : i ≢ n = λ e. lacks (subst (Starts p t) e s.1) in omega (arith, s.0), s.1);
        same = λ i k. f.same i (λ s. k (omega (arith, s.0), s.1));
      }
  filled inside (takes {n} {used} {row} g starts more fits) = go (filled (omega arith) g)
    where
      go : FilledTo p t list was n row used → FilledTo p t list was (n + 1) (set row n (get_or list used 0)) (used + 1)
      go f = record {
        long = length-set row n (get_or list used 0) ∙ f.long;
        few = omega (arith, more);
        fresh = λ i s.
            elim (cases_eq i n) [
              | inl e ↦
                  subst (λ k. FitsHandler (at p k) (get_or (set row n (get_or list used 0)) k 0)) (sym e)
                  (subst (FitsHandler (at p n)) (sym (get_or-set_same row n (get_or list used 0) 0 (omega (arith, f.long, whole)))) fits)
              | inr ne ↦ subst (FitsHandler (at p i)) (sym (get_or-set_other row n i (get_or list used 0) 0 ne)) (f.fresh i (omega (arith, s.0), s.1))
            ];
        same = λ i k.
            let ne : i ≢ n = λ e. k (omega (arith, e), subst (Starts p t) (sym e) starts) in
            get_or-set_other row n i (get_or list used 0) 0 ne ∙ f.same i (λ s. k (omega (arith, s.0), s.1));
      }

-- the handlers up to number n have had their turn, and rest is what is left of the list
pub record HadTurns (p : Contents) (t : ℕ) (list was : List ℕ) (n : ℕ) (row rest : List ℕ) : Type 0 where
  pub few : length rest ≤ length list
  pub unused : rest ≡ drop (used_up list rest) list
  pub given : Given p t list was n row (used_up list rest)

module _ {p : Contents} {t : ℕ} {list was : List ℕ} where
  pub had_none : HadTurns p t list was 0 was list
  had_none = let e : used_up list list ≡ 0 = omega arith in record { few = omega arith; unused = rw e; given = rw e none }

  module _ {row rest : List ℕ} (n : ℕ) (known : Known p n) (had : HadTurns p t list was (n - 1) row rest) where
    turn : n - 1 + 1 ≡ n
    turn = omega (arith, known)

    pub had_rests : ¬ (Known p n × Starts p t (n - 1)) → HadTurns p t list was n row rest
    had_rests lacks =
        record { few = had.few; unused = had.unused; given = subst (λ k. Given p t list was k row (used_up list rest)) turn (rests had.given (λ s. lacks (known, s))) }

    module _ (h : Handler) (found : Known p n × Starts p t (n - 1) × (h ≡ at p (n - 1))) where
      pub had_takes : (time : ℕ) (others : List ℕ) → (rest ≡ time ∷ others) × FitsHandler h time → HadTurns p t list was n (set row (n - 1) time) others
      had_takes time others taken =
          let used = used_up list rest in
          let long : length rest ≡ suc (length others) = ap length taken.0 in
          let more : used_up list others ≡ used + 1 = omega (arith, had.few) in
          let inside : used < length list = omega (arith, had.few) in
          let both = sym taken.0 ∙ had.unused ∙ drop_more list used 0 inside in
          let first : time ≡ get_or list used 0 = cc in
          let fits : FitsHandler (at p (n - 1)) (get_or list used 0) = rw (found.2, first) at taken.1 in
          record {
            few = omega (arith, had.few);
            unused = rw more cc;
            given = rw (more, first) (subst (λ k. Given p t list was k (set row (n - 1) (get_or list used 0)) (used + 1)) turn (takes had.given found.1 inside fits));
          }

      pub had_stops : (e : Misfit) → RefusesTime h n rest 0 e → StopsAt p t list was e
      had_stops e refuses = (n - 1, used_up list rest, record { known = omega (arith, known); starts = found.1; row = row; before = had.given }, go e refuses)
        where
          first : get_or rest 0 0 ≡ get_or list (used_up list rest) 0
          first =
              let e : used_up list rest + 0 ≡ used_up list rest = omega arith in
              ap (λ l. get_or l 0 0) had.unused ∙ get_or-drop (used_up list rest) list 0 0 ∙ ap (λ k. get_or list k 0) e

          go : (e : Misfit) → RefusesTime h n rest 0 e → RefusesTime (at p (n - 1)) (n - 1 + 1) list (used_up list rest) e
          go (Ended number) r = (r.0 ∙ sym turn, omega (arith, r.1, had.few))
          go (Outside number time) r = (r.0 ∙ sym turn, omega (arith, r.1, had.few), r.2 ∙ first, rw found.2 at r.3)

module _ {p : Contents} {t : ℕ} {list was row rest : List ℕ} (ok : Sound p) (whole : length was ≡ 64) (had : HadTurns p t list was (count p) row rest) where
  f : FilledTo p t list was (count p) row (used_up list rest)
  f = filled p t list was whole ok.few had.given

  pub given_long : length row ≡ 64
  given_long = f.long ∙ whole

  pub given_started : Started p t (take (count p) was) (take (count p) row)
  given_started = record {
    long = length-take-le (count p) row (omega (arith, given_long, ok.few));
    fresh = λ i h s. subst (FitsHandler (at p i)) (sym (get_or-take (count p) row i 0 h)) (f.fresh i (h, s));
    same = λ i h k. get_or-take (count p) row i 0 h ∙ f.same i (λ s. k s.1) ∙ sym (get_or-take (count p) was i 0 h);
  }

  pub given_rest : drop (count p) row ≡ drop (count p) was
  given_rest = drop_same (count p) row was f.long (λ i h. f.same i (λ s. omega (arith, s.0)))
