-- One handler more in the search for the one that goes first on a core.
use Rattle.std.proofs.Common.{◌≡◌, ℕ, suc, ◌+◌, ◌<◌, Bool, true, false, not, ◌≢◌, ◌⊎◌, Some, None, Option, sym, ap, ◌∙◌, subst, inl, inr, arith, MatchOption}
use Rattle.std.specs.Option.{option_map}
use Rattle.std.proofs.lemmas.Bool.{cases_eq, true≢false}
use Rattle.policy.specs.declared.cores.Core.{Core}
use Rattle.policy.specs.declared.candidates.Candidate.{Candidate}
use Rattle.policy.specs.Laws.{Choice, IsLawfulChoice}
use Rattle.plan.specs.Contents.{Contents, count, StandsFor}
use Rattle.model.specs.Units.{State, GoesBefore}
use Rattle.model.proofs.Asking.{before_carries, places_apart}
use Rattle.checker.specs.Choosing.{Chosen, Contends, FirstBelow}

module _ (p : Contents) (D : Choice) (law : IsLawfulChoice D) (t : ℕ) (u : State) (c : Core) where
  -- below n, or n itself
  last_or_below : (n j : ℕ) → j < n + 1 → (j ≡ n) ⊎ (j < n)
  last_or_below n j l = elim (cases_eq j n) [ inl e ↦ inl e | inr ne ↦ inr (omega arith) ]

  pub first_skips : (n : ℕ) (best : Option Candidate) → ¬ Contends p u c n → FirstBelow p D t u c n best → FirstBelow p D t u c (n + 1) best
  first_skips n None lacks below = λ i l x. elim (last_or_below n i l) [ inl e ↦ lacks (subst (Contends p u c) e x) | inr h ↦ below i h x ]
  first_skips n (Some x) lacks (i, f) = (
    i,
    record {
      below = omega (arith, f.below);
      is = f.is;
      contends = f.contends;
      first = λ j l ne y. elim (last_or_below n j l) [ inl e ↦ absurd (lacks (subst (Contends p u c) e y)) | inr h ↦ f.first j h ne y ];
    },
  )

  module _ (n : ℕ) (next : Candidate) (is : StandsFor next p (suc n)) where
    -- asked about two, of which the one contends for the core
    asked : (i j : ℕ) (x y : Candidate) → Contends p u c i → StandsFor x p (suc i) → StandsFor y p (suc j) → D c x y t ≡ true → GoesBefore p D t i j
    asked i j x y a s r e = record { core = c; one = x; other = y; on = sym a.0; is_one = s; is_other = r; named = e }

    module _ (beaten : Bool) where
      -- the first stays where the next is beaten, ready or not
      pub first_stays : (best : Option Candidate) → beaten ≡ true → MatchOption best (beaten ≡ false) (λ x. beaten ≡ D c x next t)
          → FirstBelow p D t u c n best → FirstBelow p D t u c (n + 1) best
      first_stays None won alone below = absurd (true≢false (sym won ∙ alone))
      first_stays (Some x) won asks (i, f) = (
        i,
        record {
          below = omega (arith, f.below);
          is = f.is;
          contends = f.contends;
          first = λ j l ne y.
              elim (last_or_below n j l) [
                | inl e ↦ subst (GoesBefore p D t i) (sym e) (asked i n x next f.contends f.is is (sym asks ∙ won))
                | inr h ↦ f.first j h ne y
              ];
        },
      )

      -- the next takes its place where it is not beaten, and ready
      pub first_yields : Contends p u c n → (best : Option Candidate) → beaten ≡ false → MatchOption best (beaten ≡ false) (λ x. beaten ≡ D c x next t)
          → FirstBelow p D t u c n best → FirstBelow p D t u c (n + 1) (Some next)
      first_yields contends None lost alone none = (
        n,
        record {
          below = omega arith;
          is = is;
          contends = contends;
          first = λ j l ne y. elim (last_or_below n j l) [ inl e ↦ absurd (ne e) | inr h ↦ absurd (none j h y) ];
        },
      )
      first_yields contends (Some x) lost asks (i, f) =
          let apart : n ≢ i = omega (arith, f.below) in
          let turned : D c next x t ≡ true = law.reverses c x next t (places_apart p i n x next apart f.is is) ∙ ap not (sym asks ∙ lost) in
          let over : GoesBefore p D t n i = asked n i next x contends is f.is turned in (
            n,
            record {
              below = omega arith;
              is = is;
              contends = contends;
              first = λ j l ne y.
                  elim (cases_eq j i) [
                    | inl e ↦ subst (GoesBefore p D t n) (sym e) over
                    | inr other ↦
                        before_carries p D law t n i j apart (λ e. other (sym e)) (λ e. ne (sym e)) (contends.0 ∙ sym f.contends.0) over
                        (f.first j (omega arith) other y)
                  ];
            },
          )

  -- the first of all that contend runs
  pub first_runs : (best : Option Candidate) → FirstBelow p D t u c (count p) best → Chosen p D t u c (option_map (λ x. x.number) best)
  first_runs None none = λ i l on ready. none i l (on, ready)
  first_runs (Some x) (i, f) =
      (i, f.is.number, f.below, f.contends.0, record { ready = f.contends.1; first = λ j l ne on ready. f.first j l ne (on ∙ f.contends.0, ready) })
