-- Where some handler has time left, some handler is ready: going back along joins ends.
use Rattle.std.proofs.Common.{◌≡◌, ℕ, zero, suc, ◌+◌, ◌<◌, ◌≤◌, true, ◌⊎◌, List, [], ◌∷◌, length, subst, inl, inr, arith}
use mathlib.Core.Bool.{Bool-discrete}
use mathlib.Core.Logic.Dec
use native.Mathlib.Decide.{dec_lt}
use Rattle.std.specs.List.{range_with_len, Contains as Has}
use Rattle.std.proofs.lemmas.List.FromFn.{length-range_with_len}
use Rattle.gather.specs.Levels.{Once}
use Rattle.gather.proofs.Counting.{has_cases, once_fits}
use Rattle.plan.specs.Contents.{Contents, Sound, count}
use Rattle.plan.specs.Joins.{Chain, one, more}
use Rattle.model.specs.Units.{State, left, Ready}
use Rattle.model.specs.Theorems.{SomeoneIsReady}
use Rattle.model.proofs.Deciding.{least}
use Rattle.model.proofs.Lists.{has_none, once_none, once_cons, has_counting}

module _ (p : Contents) (ok : Sound p) (u : State) where
  -- the place holds the one at i up
  abbrev HoldsUp : ℕ → ℕ → Type 0
  HoldsUp i a = (p.joined a i ≡ true) × (0 < left u a)

  -- the places passed on the way back to i: joins lead from i to each
  record Passed (i : ℕ) (seen : List ℕ) : Type 0 where
    once : Once seen
    low : (x : ℕ) → Has seen x → x < count p
    ahead : (x : ℕ) → Has seen x → Chain p.joined i x

  -- i itself was not passed before
  passed_once : (i : ℕ) (seen : List ℕ) → Passed i seen → Once (i ∷ seen)
  passed_once i seen w = once_cons i seen (λ h. ok.no_circle i (w.ahead i h)) w.once

  passed_low : (i : ℕ) (seen : List ℕ) → i < count p → Passed i seen → (x : ℕ) → Has (i ∷ seen) x → x < count p
  passed_low i seen h w x k = elim (has_cases i x seen k) [ inl e ↦ subst (λ (y : ℕ). y < count p) e h | inr m ↦ w.low x m ]

  step_back : (i a : ℕ) (seen : List ℕ) → i < count p → Passed i seen → p.joined a i ≡ true → Passed a (i ∷ seen)
  step_back i a seen h w j =
      record {
        once = passed_once i seen w;
        low = passed_low i seen h w;
        ahead = λ x k. elim (has_cases i x seen k) [ inl e ↦ one (subst (λ (y : ℕ). p.joined a y ≡ true) e j) | inr m ↦ more j (w.ahead x m) ];
      }

  -- so many places are left to go back to
  back : (n i : ℕ) (seen : List ℕ) → count p ≤ length seen + n → i < count p → 0 < left u i → Passed i seen
      → (r : ℕ) × (r < count p) × Ready p u r
  back zero i seen le h work w =
      let fits : length (i ∷ seen) ≤ length (range_with_len 0 (count p)) =
      once_fits (i ∷ seen) (range_with_len 0 (count p)) (passed_once i seen w)
      (λ x k. let l : x < count p = passed_low i seen h w x k in has_counting 0 (count p) x (omega arith) (omega arith)) in
      absurd (omega (arith, length-range_with_len 0 (count p)))
  back (suc n) i seen le h work w =
      go (least (HoldsUp i) (λ a. Dec.and (Bool-discrete (p.joined a i) true) (dec_lt 0 (left u a))) (count p)) (λ a. back n a (i ∷ seen))
    where
      go : ((a : ℕ) → a < count p → ¬ HoldsUp i a) ⊎ ((a : ℕ) × HoldsUp i a × ((b : ℕ) → b < a → ¬ HoldsUp i b))
          → ((a : ℕ) → count p ≤ length (i ∷ seen) + n → a < count p → 0 < left u a → Passed a (i ∷ seen)
          → (r : ℕ) × (r < count p) × Ready p u r)
          → (r : ℕ) × (r < count p) × Ready p u r
      go (inl f) rest =
          let none : (a : ℕ) → p.joined a i ≡ true → ¬ (0 < left u a) = λ a j l. f a (ok.inside a i j).0 (j, l) in
          (i, h, record { working = work; waits = λ a j. omega (arith, none a j) })
      go (inr (a, (j, l), _)) rest = rest a (omega arith) (ok.inside a i j).0 l (step_back i a seen h w j)

pub someone_is_ready : SomeoneIsReady
someone_is_ready p ok u i h work =
    back p ok u (count p) i [] (omega arith) h work
    (record { once = once_none; low = λ x k. absurd (has_none x k); ahead = λ x k. absurd (has_none x k) })
