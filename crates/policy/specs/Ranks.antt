-- Ranks: `Less` is ahead, `Equal` is level, `Greater` is behind. How two numbers rank: the smaller is ahead.
use Rattle.std.specs.Prelude.{◌≡◌, ℕ, ◌<◌}
use Rattle.std.specs.declared.cmp.Ordering.{Ordering}
use Rattle.std.specs.Ordering.{MatchOrdering}

-- a rank of two numbers, as a relation: ahead is the smaller, level is equal
abbrev pub SmallerAhead : Ordering → ℕ → ℕ → Type 0
SmallerAhead r m n = MatchOrdering r (m < n) (m ≡ n) (n < m)
