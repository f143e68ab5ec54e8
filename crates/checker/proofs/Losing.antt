-- Core after core: what the loop of `serve` keeps, how it begins and how it ends.
use Rattle.std.proofs.Common.{◌≡◌, ℕ, suc, ◌+◌, ◌-◌, ◌<◌, ◌≤◌, ◌≢◌, List, length, get_or, take, drop, set, Some, None, sym, refl, ap, ◌∙◌, inl, inr, arith}
use Rattle.std.specs.List.{slice_get}
use Rattle.std.proofs.lemmas.List.{get_or-take, length-take-le, length-set, get_or-set_same, get_or-set_other}
use Rattle.std.proofs.lemmas.Option.{slice_get-get_or}
use Rattle.std.proofs.lemmas.Bool.{cases_eq}
use Rattle.policy.specs.declared.cores.Core.{Core}
use Rattle.policy.specs.Laws.{Choice, IsLawfulChoice}
use Rattle.plan.specs.Contents.{Contents, Sound, count, at}
use Rattle.model.specs.Units.{Running, Served}
use Rattle.model.proofs.Asking.{before_not_both}
use Rattle.checker.specs.Choosing.{Chosen}
use Rattle.checker.specs.Serving.{RunsTo, ServedTo}
use Rattle.checker.proofs.Reading.{drop_same}

module _ (p : Contents) (D : Choice) (ok : Sound p) (t : ℕ) (was : List ℕ) where
  pub served_none : ServedTo p D t was 0 was
  served_none = record { long = refl; lost = λ i r. absurd (let low : 1 ≤ (at p i).core = (ok.ranges i r.known).3 in omega (arith, r.low)); kept = λ i n. refl }

  -- two that run on one core are one
  running_one : IsLawfulChoice D → (i j : ℕ) → i < count p → j < count p → (at p i).core ≡ (at p j).core
      → Running p D t (take (count p) was) i → Running p D t (take (count p) was) j → i ≡ j
  running_one law i j li lj e x y =
      elim (cases_eq i j) [
        | inl q ↦ q
        | inr ne ↦
            (let nji : j ≢ i = λ q. ne (sym q) in
            absurd (before_not_both p D law t i j nji (sym e) (x.first j lj nji (sym e) y.ready) (y.first i li ne e x.ready)))
      ]

  -- the turn of a core, after those before it
  module _ (law : IsLawfulChoice D) (m : ℕ) (now : List ℕ) (before : ServedTo p D t was m now)
      (cores : List Core) (ordered : (i : ℕ) (k : Core) → slice_get cores i ≡ Some k → k.number ≡ i + 1) (x : Core) (inside : m < length cores) where
    abbrev pub core : Core
    core = get_or cores m x

    turn : core.number ≡ m + 1
    turn = ordered m core (slice_get-get_or cores m x inside)

    -- who runs on the cores up to this one runs on one before it, or on this one
    earlier : (i : ℕ) → RunsTo p D t was (m + 1) i → (at p i).core ≢ core.number → RunsTo p D t was m i
    earlier i r ne = record { known = r.known; runs = r.runs; low = omega (arith, r.low, turn) }

    later : (i : ℕ) → RunsTo p D t was m i → RunsTo p D t was (m + 1) i
    later i r = record { known = r.known; runs = r.runs; low = omega (arith, r.low) }

    pub served_idle : Chosen p D t (take (count p) was) core None → ServedTo p D t was (m + 1) now
    served_idle none = record {
      long = before.long;
      lost = λ i r. before.lost i (earlier i r (λ e. none i r.known e r.runs.ready));
      kept = λ i n. before.kept i (λ r. n (later i r));
    }

    module _ (n : ℕ) (chosen : Chosen p D t (take (count p) was) core (Some n)) where
      this : (n - 1 < count p) × ((at p (n - 1)).core ≡ core.number) × Running p D t (take (count p) was) (n - 1)
      this = let e : n - 1 ≡ chosen.0 = omega (arith, chosen.1) in rw e (chosen.2, chosen.3, chosen.4)

      still : get_or now (n - 1) 0 ≡ get_or was (n - 1) 0
      still = before.kept (n - 1) (λ r. omega (arith, r.low, this.1, turn))

      pub chosen_works : 1 ≤ get_or now (n - 1) 0
      chosen_works = rw still (rw (get_or-take (count p) was (n - 1) 0 this.0) at this.2.ready.working)

      pub served_spent : length was ≡ 64 → ServedTo p D t was (m + 1) (set now (n - 1) (get_or now (n - 1) 0 - 1))
      served_spent whole =
          let spent = get_or now (n - 1) 0 - 1 in record {
            long = length-set now (n - 1) spent ∙ before.long;
            lost = λ i r.
                elim (cases_eq i (n - 1)) [
                  | inl e ↦ rw e (omega (arith, get_or-set_same now (n - 1) spent 0 (omega (arith, ok.few, this.0, before.long, whole)), still, chosen_works))
                  | inr ne ↦
                      before.lost i (earlier i r (λ e. ne (running_one law i (n - 1) r.known this.0 (e ∙ sym this.1) r.runs this.2)))
                      ∙ ap suc (sym (get_or-set_other now (n - 1) i spent 0 ne))
                ];
            kept = λ i k.
                let ne : i ≢ n - 1 = λ e. k (rw e (record { known = this.0; runs = this.2; low = omega (arith, this.1, turn) })) in
                get_or-set_other now (n - 1) i spent 0 ne ∙ before.kept i (λ r. k (later i r));
          }

module _ (p : Contents) (D : Choice) (ok : Sound p) (t : ℕ) (was now : List ℕ) (whole : length was ≡ 64) (all : ServedTo p D t was 8 now) where
  everyone : (i : ℕ) → i < count p → Running p D t (take (count p) was) i → RunsTo p D t was 8 i
  everyone i l r = record { known = l; runs = r; low = (ok.ranges i l).4 }

  pub served_all : Served p D t (take (count p) was) (take (count p) now)
  served_all = record {
    long = length-take-le (count p) now (omega (arith, ok.few, all.long, whole));
    ran = λ i l r. get_or-take (count p) was i 0 l ∙ all.lost i (everyone i l r) ∙ ap suc (sym (get_or-take (count p) now i 0 l));
    waited = λ i l n. get_or-take (count p) now i 0 l ∙ all.kept i (λ r. n r.runs) ∙ sym (get_or-take (count p) was i 0 l);
  }

  pub rest_all : drop (count p) now ≡ drop (count p) was
  rest_all = drop_same (count p) now was all.long (λ i h. all.kept i (λ r. omega (arith, r.known)))
