-- The codes of the three criteria.
use Rattle.std.specs.Prelude.{◌≡◌, ℕ, ◌-◌, List, slice_index_or, Result, MatchResult}
use Rattle.policy.specs.declared.cores.Core.{Core}
use Rattle.policy.specs.declared.banks.Side.{Side}
use Rattle.policy.specs.declared.banks.Side.TheVariants.{Left, Right}
use Rattle.policy.specs.declared.codes.Code.{Code}
use Rattle.policy.specs.declared.codes.Code.TheVariants.{FixedPriority, RateMonotonic, EarliestDeadline}
use Rattle.policy.specs.declared.codes.UnknownCode.{UnknownCode}
use Rattle.policy.specs.Banks.{side_at}
use Rattle.policy.specs.Laws.{Ranking, Choice}
use Rattle.policy.specs.Meanings.{by_number, by_period, by_distance, numbered}

-- the number that a plan names the code by
abbrev pub number_of : Code → ℕ
number_of FixedPriority = 1
number_of RateMonotonic = 2
number_of EarliestDeadline = 3

-- some code has this number
abbrev pub IsCode : ℕ → Type 0
IsCode number = (code : Code) × (number_of code ≡ number)

-- the code of that number, or the number back where no code has it
abbrev pub Decodes : ℕ → Result Code UnknownCode → Type 0
Decodes number r = MatchResult r (λ c. number_of c ≡ number) (λ e. (e.0 ≡ number) × (¬ IsCode number))

-- the criterion that a code stands for
abbrev pub ranks_by : Code → Ranking
ranks_by FixedPriority = by_number
ranks_by RateMonotonic = by_period
ranks_by EarliestDeadline = by_distance

-- the code of a core in a table of eight
abbrev pub code_at : List Code → Core → Code
code_at codes k = slice_index_or codes (k.number - 1) FixedPriority

-- on each core, numbering over the criterion that its code stands for
abbrev pub coded : List Code → Choice
coded codes k = numbered (ranks_by (code_at codes k)) k

-- the code that the sides for a core stand for, in a bank of fixed priority and a bank of the other two
abbrev pub code_on : Side → Side → Code
code_on Left inner = FixedPriority
code_on Right Left = RateMonotonic
code_on Right Right = EarliestDeadline

-- the code of a core, by the tables of these two banks
abbrev pub code_in : List Side → List Side → Core → Code
code_in outer inner k = code_on (side_at outer k) (side_at inner k)
