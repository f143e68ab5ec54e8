-- Starts, one handler after another: what the loop of `reach` keeps.
use Rattle.std.proofs.Common.{◌≡◌, ℕ, ◌-◌, ◌≤◌, ◌≢◌, List, length, get_or, set, refl, ap, ◌∙◌, subst, inl, inr, arith}
use Rattle.std.proofs.lemmas.List.{length-set, get_or-set_same, get_or-set_other}
use Rattle.std.proofs.lemmas.Bool.{cases_eq}
use Rattle.plan.specs.declared.handlers.Handler.{Handler}
use Rattle.plan.specs.Contents.{Contents, count, at, Known}
use Rattle.model.specs.Units.{Starts}
use Rattle.checker.specs.Reaching.{StartsTo, ReachesTo}

module _ {p : Contents} {t : ℕ} {was : List ℕ} where
  pub reaches_none : ReachesTo p t was 0 was was
  reaches_none = record {
    long_low = refl;
    long_high = refl;
    least = λ i s. absurd (omega (arith, s.0));
    most = λ i s. absurd (omega (arith, s.0));
    same_low = λ i n. refl;
    same_high = λ i n. refl;
  }

  -- the turn of the handler of number n, after those before it
  module _ {low high : List ℕ} (n : ℕ) (known : Known p n) (before : ReachesTo p t was (n - 1) low high) where
    starts_sooner : (i : ℕ) → i ≢ n - 1 → StartsTo p t n i → StartsTo p t (n - 1) i
    starts_sooner i ne s = (omega (arith, s.0), s.1)

    starts_later : (i : ℕ) → StartsTo p t (n - 1) i → StartsTo p t n i
    starts_later i s = (omega (arith, s.0), s.1)

    pub reaches_skips : ¬ (Known p n × Starts p t (n - 1)) → ReachesTo p t was n low high
    reaches_skips lacks =
        let sooner : (i : ℕ) → StartsTo p t n i → StartsTo p t (n - 1) i = λ i s. starts_sooner i (λ e. lacks (known, subst (Starts p t) e s.1)) s in
        record {
          long_low = before.long_low;
          long_high = before.long_high;
          least = λ i s. before.least i (sooner i s);
          most = λ i s. before.most i (sooner i s);
          same_low = λ i k. before.same_low i (λ s. k (starts_later i s));
          same_high = λ i k. before.same_high i (λ s. k (starts_later i s));
        }

    module _ (inside : count p ≤ length was) (h : Handler) (found : Known p n × Starts p t (n - 1) × (h ≡ at p (n - 1))) where
      -- a row written at the place: there it has the new value, and elsewhere what it had
      written : (row : List ℕ) (x : ℕ) (goal : ℕ → ℕ) → x ≡ goal (n - 1) → length row ≡ length was → ((i : ℕ) → StartsTo p t (n - 1) i → get_or row i 0 ≡ goal i)
          → (i : ℕ) → StartsTo p t n i → get_or (set row (n - 1) x) i 0 ≡ goal i
      written row x goal is long old i s =
          elim (cases_eq i (n - 1)) [
            | inl q ↦ rw q (get_or-set_same row (n - 1) x 0 (omega (arith, long, inside, known)) ∙ is)
            | inr ne ↦ get_or-set_other row (n - 1) i x 0 ne ∙ old i (starts_sooner i ne s)
          ]

      other : (row : List ℕ) (x : ℕ) → ((i : ℕ) → ¬ StartsTo p t (n - 1) i → get_or row i 0 ≡ get_or was i 0)
          → (i : ℕ) → ¬ StartsTo p t n i → get_or (set row (n - 1) x) i 0 ≡ get_or was i 0
      other row x old i k =
          let ne : i ≢ n - 1 = λ e. k (omega (arith, e, known), rw e found.1) in
          get_or-set_other row (n - 1) i x 0 ne ∙ old i (λ s. k (starts_later i s))

      pub reaches_starts : ReachesTo p t was n (set low (n - 1) h.shortest) (set high (n - 1) h.longest)
      reaches_starts = record {
        long_low = length-set low (n - 1) h.shortest ∙ before.long_low;
        long_high = length-set high (n - 1) h.longest ∙ before.long_high;
        least = written low h.shortest (λ i. (at p i).shortest) (ap (λ g. g.shortest) found.2) before.long_low before.least;
        most = written high h.longest (λ i. (at p i).longest) (ap (λ g. g.longest) found.2) before.long_high before.most;
        same_low = other low h.shortest before.same_low;
        same_high = other high h.longest before.same_high;
      }
