-- The round is the least number that every period divides, and the settling time the greatest offset.
use Rattle.std.proofs.Common.{◌≡◌, ℕ, zero, suc, ◌*◌, ◌≤◌, max, ◌⊎◌, List, [], ◌∷◌, get_or, set, fold, sym, refl, ap, ◌∙◌, subst, inl, inr, le_trans, mul-pos, arith}
use Prim.Native.Nat.{◌∣◌}
use native.Mathlib.Nat.{le_of_dvd, pos_of_dvd_of_pos, dvd_trans, dvd_refl, dvd-mul_left, dvd-mul_right, one-dvd, le-max_left, le-max_right, max-eq_left, max-eq_right}
use Rattle.std.specs.List.{Contains as Has}
use Rattle.std.proofs.lemmas.Bool.{cases_lt}
use Rattle.gather.proofs.Counting.{has_here, has_there, has_cases}
use Rattle.plan.specs.Multiples.{lcm}
use Rattle.plan.proofs.Euclid.{lcm_is}
use Rattle.plan.specs.declared.handlers.Handler.{Handler}
use Rattle.plan.specs.Rows.{round_from, settling_from, settling_of, Common, Recurring, RoundIsLeastCommonMultiple, GreatestOffset}

-- from m on: a multiple of m and of every period, that divides every other
record MultipleFrom (m : ℕ) (hs : List Handler) (n : ℕ) : Type 0 where
  begun : m ∣ n
  common : Common hs n
  every : (k : ℕ) → m ∣ k → Common hs k → n ∣ k
  some : 1 ≤ n

lcm_some : (a b : ℕ) → 1 ≤ a → 1 ≤ b → 1 ≤ lcm a b
lcm_some a b a1 b1 = pos_of_dvd_of_pos ((lcm_is a b).every (a * b) (dvd-mul_right a b) (dvd-mul_left b a)) (mul-pos a1 b1)

round_multiple : (m : ℕ) (hs : List Handler) → 1 ≤ m → Recurring hs → MultipleFrom m hs (round_from m hs)
round_multiple m [] m1 all = record { begun = dvd_refl m; common = λ h k. absurd (omega (arith, k.1)); every = λ k d c. d; some = m1 }
round_multiple m (h ∷ hs) m1 all =
    let l = lcm_is m h.period in
    let ih = round_multiple (lcm m h.period) hs (lcm_some m h.period m1 (all h (has_here h hs))) (λ x k. all x (has_there h x hs k)) in
    record {
      begun = dvd_trans m l.left ih.begun;
      common = λ x k. elim (has_cases h x hs k) [ inl e ↦ subst (λ y. y.period ∣ round_from (lcm m h.period) hs) e (dvd_trans h.period l.right ih.begun) | inr k' ↦ ih.common x k' ];
      every = λ k d c. ih.every k (l.every k d (c h (has_here h hs))) (λ x k'. c x (has_there h x hs k'));
      some = ih.some;
    }

pub round_least : RoundIsLeastCommonMultiple
round_least hs all =
    let r = round_multiple 1 hs (omega arith) all in
    record {
      some = r.some;
      common = r.common;
      least = λ n n1 c. le_of_dvd n1 (r.every n (one-dvd n) c);
      divides = λ n c. r.every n (one-dvd n) c;
    }

-- from m on: at least m and every offset, and one of them
record GreatestFrom (m : ℕ) (hs : List Handler) (n : ℕ) : Type 0 where
  begun : m ≤ n
  above : (h : Handler) → Has hs h → h.offset ≤ n
  one_of : ((h : Handler) × Has hs h × (h.offset ≡ n)) ⊎ (m ≡ n)

settling_greatest_from : (m : ℕ) (hs : List Handler) → GreatestFrom m hs (settling_from m hs)
settling_greatest_from m [] = record { begun = omega arith; above = λ h k. absurd (omega (arith, k.1)); one_of = inr refl }
settling_greatest_from m (h ∷ hs) =
    let n = settling_from (max m h.offset) hs in
    let ih = settling_greatest_from (max m h.offset) hs in
    record {
      begun = le_trans (le-max_left m h.offset) ih.begun;
      above = λ x k. elim (has_cases h x hs k) [ inl e ↦ subst (λ y. y.offset ≤ n) e (le_trans (le-max_right m h.offset) ih.begun) | inr k' ↦ ih.above x k' ];
      one_of =
          elim ih.one_of [
            | inl w ↦ inl (w.0, has_there h w.0 hs w.1, w.2)
            | inr e ↦
                (elim (cases_lt m h.offset) [
                  | inl lt ↦ inl (h, has_here h hs, (let le : m ≤ h.offset = omega arith in sym (max-eq_right le) ∙ e))
                  | inr ge ↦ inr (sym (max-eq_left ge) ∙ e)
                ])
          ];
    }

pub settling_greatest : (hs : List Handler) → GreatestOffset hs (settling_of hs)
settling_greatest hs =
    let g = settling_greatest_from 0 hs in
    record {
      above = g.above;
      tight = λ n bound. elim g.one_of [ inl w ↦ omega (arith, bound w.0 w.1, w.2) | inr e ↦ omega (arith, e) ];
    }

-- an element in the place of one that counts for the same changes nothing
pub folded_set : {X Y : Type 0} (f : Y → X → Y) (a : Y) (xs : List X) (i : ℕ) (x : X) → ((y : Y) → f y x ≡ f y (get_or xs i x)) → fold f a (set xs i x) ≡ fold f a xs
folded_set f a [] i x e = refl
folded_set f a (y ∷ xs) zero x e = ap (λ b. fold f b xs) (e a)
folded_set f a (y ∷ xs) (suc i) x e = folded_set f (f a y) xs i x e
