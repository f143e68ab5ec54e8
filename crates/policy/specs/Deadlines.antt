-- When the next deadline of a period and an offset falls, and how far off it is.
use Rattle.std.specs.Prelude.{◌≡◌, ℕ, ◌+◌, ◌-◌, ◌*◌, ◌%◌, ◌<◌, ◌≤◌}

-- e is a deadline: the end of the n-th period, counted from 1
abbrev pub Deadline : ℕ → ℕ → ℕ → Type 0
Deadline period offset e = (n : ℕ) × (1 ≤ n) × (e ≡ offset + n * period)

-- e is the least deadline after t
pub record Next (period offset t e : ℕ) : Type 0 where
  pub one_of : Deadline period offset e
  pub after : t < e
  pub least : (d : ℕ) → Deadline period offset d → t < d → e ≤ d

-- the least deadline after t, less t, by a formula
abbrev pub distance : ℕ → ℕ → ℕ → ℕ
distance period offset t = (offset - t) + (period - (t - offset) % period)
