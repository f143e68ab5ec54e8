-- What the three criteria and numbering over a criterion mean.
use Rattle.std.specs.Prelude.{ℕ, Bool}
use Rattle.std.specs.declared.cmp.Ordering.{Ordering}
use Rattle.std.specs.Ordering.{is_lt, nat_cmp, ordering_then}
use Rattle.policy.specs.Deadlines.{distance}
use Rattle.policy.specs.Laws.{Ranking, Choice}

-- fixed priority: the smaller number is ahead
abbrev pub by_number : Ranking
by_number k a b t = nat_cmp a.number b.number

-- rate-monotonic: the shorter period is ahead
abbrev pub by_period : Ranking
by_period k a b t = nat_cmp a.period b.period

-- earliest deadline first: the smaller distance to the next deadline is ahead
abbrev pub by_distance : Ranking
by_distance k a b t = nat_cmp (distance a.period a.offset t) (distance b.period b.offset t)

-- whether the one that is ahead, or the smaller number where they are level, is the first of the two
abbrev pub by_rank : Ordering → ℕ → ℕ → Bool
by_rank r m n = is_lt (ordering_then r (nat_cmp m n))

-- numbering over a criterion
abbrev pub numbered : Ranking → Choice
numbered ranks k a b t = by_rank (ranks k a b t) a.number b.number
