-- Greatest common divisors and least common multiples, as they are computed; and what a least common multiple is, as
-- std's `IsGcd` says it of a greatest common divisor.
use Rattle.std.specs.Prelude.{ℕ, zero, suc, ◌*◌, ◌/◌, ◌%◌, ◌≤◌, cond, Some, None, Option, nat_le}
use Rattle.std.specs.Int.{◌∣◌}

-- both divide m, and m divides everything that both divide; so no common multiple above 0 is less than m
pub record LeastCommonMultiple (a b m : ℕ) : Type 0 where
  pub left : a ∣ m
  pub right : b ∣ m
  pub every : (n : ℕ) → a ∣ n → b ∣ n → m ∣ n
  pub least : (n : ℕ) → 1 ≤ n → a ∣ n → b ∣ n → m ≤ n

-- Euclid's algorithm, in at most so many steps
abbrev pub gcd_within : ℕ → ℕ → ℕ → ℕ
gcd_within zero a b = a
gcd_within (suc f) a zero = a
gcd_within (suc f) a (suc b) = gcd_within f (suc b) (a % suc b)

-- b steps are enough, since the second number falls with each
abbrev pub gcd : ℕ → ℕ → ℕ
gcd a b = gcd_within b a b

-- the least common multiple, as it is computed
abbrev pub lcm : ℕ → ℕ → ℕ
lcm a b = a / gcd a b * b

-- n, if it is at most the limit
abbrev pub within : ℕ → ℕ → Option ℕ
within limit n = cond (nat_le n limit) (Some n) None
