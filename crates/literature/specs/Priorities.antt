-- The article's three priority relations, in its own terms: a smaller number means higher priority, and decides where periods or distances are equal.
use Rattle.std.specs.Prelude.{◌≡◌, ℕ, ◌-◌, ◌<◌, ◌⊎◌, List, slice_index_or}
use Rattle.policy.specs.Deadlines.{Next}
use Rattle.policy.specs.declared.codes.Code.{Code}
use Rattle.policy.specs.declared.codes.Code.TheVariants.{FixedPriority, RateMonotonic, EarliestDeadline}
use Rattle.plan.specs.Contents.{Contents, at}
use Rattle.literature.specs.Systems.{Priority}

-- d is the distance from t to the nearest deadline of the task, the start of a new period: the least one after t, less t
abbrev pub Distance : Contents → ℕ → ℕ → ℕ → Type 0
Distance p τ t d = (e : ℕ) × Next (at p τ).period (at p τ).offset t e × (d ≡ e - t)

-- the smaller of two values has the higher priority, and the smaller number where they are equal
abbrev pub LessOrFirst : ℕ → ℕ → ℕ → ℕ → Type 0
LessOrFirst x a y b = (x < y) ⊎ ((x ≡ y) × (a < b))

-- a has higher priority than b at the time t by this scheduling principle
abbrev pub Higher : Code → Contents → ℕ → ℕ → ℕ → Type 0
Higher FixedPriority p t a b = a < b
Higher RateMonotonic p t a b = LessOrFirst (at p a).period a (at p b).period b
Higher EarliestDeadline p t a b = (d e : ℕ) → Distance p a t d → Distance p b t e → LessOrFirst d a e b

-- each processing element by its own principle
abbrev pub by_principles : Contents → List Code → Priority
by_principles p codes t a b = Higher (slice_index_or codes ((at p a).core - 1) FixedPriority) p t a b
