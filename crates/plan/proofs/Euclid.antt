-- Euclid's algorithm gives the greatest common divisor, and through it the least common multiple.
use Rattle.std.proofs.Common.{◌≡◌, ℕ, zero, suc, ◌*◌, ◌/◌, ◌%◌, ◌<◌, ◌≤◌, ◌⊎◌, refl, ap, ◌∙◌, subst, inl, inr, mod-lt, mul_comm, mul-zero, arith}
use Prim.Native.Nat.{◌∣◌}
use native.Mathlib.Nat.{dvd-mul_left, dvd-mul_right, mul_right_comm, div-mul_cancel, mul-div_cancel', dvd_of_mul-dvd-mul_left, dvd_of_mul-dvd-mul_right, mul-dvd-mul_left, mul-dvd-mul_right, pos_of_dvd_of_pos, eq-zero_of_zero-dvd}
use Rattle.std.specs.Int.{IsGcd}
use Rattle.std.proofs.lemmas.Nat.Gcd.{IsGcd-from_zero, IsGcd-from_mod, dvd-zero, dvd_trans, le_of_dvd}
use Rattle.plan.specs.Multiples.{LeastCommonMultiple, gcd_within, gcd, lcm}

-- b steps or more find it
gcd_within_is : (f a b : ℕ) → b ≤ f → IsGcd a b (gcd_within f a b)
gcd_within_is zero a b p = IsGcd-from_zero a b (omega arith)
gcd_within_is (suc f) a zero p = IsGcd-from_zero a zero refl
gcd_within_is (suc f) a (suc b) p =
    let l : a % suc b < suc b = mod-lt a (omega arith) in
    IsGcd-from_mod a (suc b) _ (gcd_within_is f (suc b) (a % suc b) (omega arith))

pub gcd_is : (a b : ℕ) → IsGcd a b (gcd a b)
gcd_is a b = gcd_within_is b a b (omega arith)

-- what divides k times both numbers divides k times their greatest common divisor
scaled : (n k a b : ℕ) → 0 < k → n ∣ k * a → n ∣ k * b → n ∣ k * gcd a b
scaled n k a b some x y =
    let g = gcd (k * a) (k * b) in
    let whole : IsGcd (k * a) (k * b) g = gcd_is (k * a) (k * b) in
    let is : k * (g / k) ≡ g = mul-div_cancel' k (whole.2 k (dvd-mul_right k a) (dvd-mul_right k b)) in
    let left : g / k ∣ a = dvd_of_mul-dvd-mul_left (g / k) some (rw is whole.0) in
    let right : g / k ∣ b = dvd_of_mul-dvd-mul_left (g / k) some (rw is whole.1) in
    let part : g / k ∣ gcd a b = (gcd_is a b).2 (g / k) left right in
    dvd_trans n (whole.2 n x y) (rw is at (mul-dvd-mul_left (g / k) k part))

module _ (a b : ℕ) (some : 0 < gcd a b) where
  product : lcm a b * gcd a b ≡ a * b
  product =
      mul_right_comm (a / gcd a b) b (gcd a b)
      ∙ ap (λ n. n * b) (div-mul_cancel (gcd a b) (gcd_is a b).0)

  lcm_left : a ∣ lcm a b
  lcm_left =
      dvd_of_mul-dvd-mul_right a some
      (rw product (mul-dvd-mul_left (gcd a b) a (gcd_is a b).1))

  -- a product of both divides n times each, so n times their greatest common divisor too
  lcm_every : (n : ℕ) → a ∣ n → b ∣ n → lcm a b ∣ n
  lcm_every zero x y = dvd-zero (lcm a b)
  lcm_every (suc n) x y =
      let left : a * b ∣ suc n * a = rw (mul_comm (suc n) a) (mul-dvd-mul_left b a y) in
      let right : a * b ∣ suc n * b = mul-dvd-mul_right a x b in
      dvd_of_mul-dvd-mul_right (lcm a b) some
      (rw product (scaled (a * b) (suc n) a b (omega arith) left right))

-- a is a divisor, and every common multiple is a multiple; where b is 0, the least common multiple is 0
parts : (a b : ℕ) → (a ∣ lcm a b) × ((n : ℕ) → a ∣ n → b ∣ n → lcm a b ∣ n)
parts a zero = (rw (mul-zero (a / a)) (dvd-zero a), λ n x y. rw (mul-zero (a / a)) y)
parts a (suc b) =
    let some : 0 < gcd a (suc b) = pos_of_dvd_of_pos (gcd_is a (suc b)).1 (omega arith) in
    (lcm_left a (suc b) some, lcm_every a (suc b) some)

pub lcm_is : (a b : ℕ) → LeastCommonMultiple a b (lcm a b)
lcm_is a b = record {
  left = (parts a b).0;
  right = dvd-mul_left b (a / gcd a b);
  every = (parts a b).1;
  least = λ n some x y. le_of_dvd some ((parts a b).1 n x y);
}

-- 0 is the only multiple of 0
pub lcm_none : (a b : ℕ) → (a ≡ 0) ⊎ (b ≡ 0) → lcm a b ≡ 0
lcm_none a b (inl z) = eq-zero_of_zero-dvd (subst (λ n. n ∣ lcm a b) z (lcm_is a b).left)
lcm_none a b (inr z) = eq-zero_of_zero-dvd (subst (λ n. n ∣ lcm a b) z (lcm_is a b).right)
