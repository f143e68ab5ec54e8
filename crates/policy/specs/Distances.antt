-- The formula for the distance leads to the least deadline after t, and repeats.
use Rattle.std.specs.Prelude.{◌≡◌, ℕ, ◌+◌, ◌-◌, ◌*◌, ◌/◌, ◌%◌, ◌<◌, ◌≤◌}
use Rattle.std.proofs.Common.{ap, ◌∙◌, ⊎_elim, mod-lt, div-add-mod', add-mul, one-mul, mul-le-mul_right, add-zero, arith}
use Rattle.std.specs.Int.{◌∣◌}
use Rattle.std.proofs.Math.Nat.{add-mod, mod-mod, mod-eq-zero_of_dvd}
use Rattle.std.proofs.lemmas.Bool.{cases_lt}
use Rattle.policy.specs.Deadlines.{Next, distance}

-- with the quotient q and the rest r of t - o by p named
module _ (p o t q r : ℕ) (split : q * p + r ≡ t - o) (small : r < p) where
  reach : t + ((o - t) + (p - r)) ≡ o + (q + 1) * p
  reach = omega (arith, add-mul q 1 p, one-mul p)

  passed : (n : ℕ) → 1 ≤ n → t < o + n * p → q < n
  passed n one after =
      ⊎_elim (λ h. h)
      (λ h. absurd (omega (arith, mul-le-mul_right {m = n} {n = q} p h, mul-le-mul_right {m = 1} {n = n} p one, one-mul p)))
      (cases_lt q n)

  nearest : Next p o t (t + ((o - t) + (p - r)))
  nearest = record {
    one_of = (q + 1, omega arith, reach);
    after = omega arith;
    least = λ d h after.
        let n = h.0 in
        let is : d ≡ o + n * p = h.2 in
        let more : q + 1 ≤ n = omega (arith, passed n h.1 (omega arith)) in
        omega (arith, reach, mul-le-mul_right {m = q + 1} {n = n} p more);
  }

pub distance_next : (p o t : ℕ) → 1 ≤ p → Next p o t (t + distance p o t)
distance_next p o t pos = nearest p o t ((t - o) / p) ((t - o) % p) (div-add-mod' (t - o) p) (mod-lt (t - o) pos)

-- there is only one least deadline after t
pub next_unique : (p o t d e : ℕ) → Next p o t d → Next p o t e → d ≡ e
next_unique p o t d e x y = omega (arith, x.least e y.one_of y.after, y.least d x.one_of x.after)

-- so what is left to it is the distance
pub next_distance : (p o t e : ℕ) → 1 ≤ p → Next p o t e → distance p o t ≡ e - t
next_distance p o t e pos h = omega (arith, next_unique p o t e (t + distance p o t) h (distance_next p o t pos))

pub distance_again : (p o t d : ℕ) → o ≤ t → p ∣ d → distance p o (t + d) ≡ distance p o t
distance_again p o t d began whole =
    let moved : (t + d) - o ≡ (t - o) + d = omega arith in
    let rest : ((t + d) - o) % p ≡ (t - o) % p =
    ap (λ n. n % p) moved ∙ add-mod (t - o) d p ∙ ap (λ n. ((t - o) % p + n) % p) (mod-eq-zero_of_dvd p whole) ∙ ap (λ n. n % p) (add-zero ((t - o) % p)) ∙ mod-mod (t - o) p in
    let early : o - (t + d) ≡ o - t = omega arith in
    omega (arith, early, rest)
