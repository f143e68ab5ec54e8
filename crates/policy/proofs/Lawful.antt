-- A choice by codes obeys the laws of disciplines.
use Rattle.std.proofs.Common.{List}
use Rattle.policy.specs.declared.cores.Core.{Core}
use Rattle.policy.specs.Laws.{IsLawfulChoice, IsLawfulRanking}
use Rattle.policy.specs.Meanings.{numbered}
use Rattle.policy.specs.Lawful.{by_number_lawful, by_period_lawful, by_distance_lawful, numbered_lawful}
use Rattle.policy.specs.declared.codes.Code.{Code}
use Rattle.policy.specs.declared.codes.Code.TheVariants.{FixedPriority, RateMonotonic, EarliestDeadline}
use Rattle.policy.specs.Codes.{ranks_by, code_at, coded}

ranks_lawful : (code : Code) → IsLawfulRanking (ranks_by code)
ranks_lawful FixedPriority = by_number_lawful
ranks_lawful RateMonotonic = by_period_lawful
ranks_lawful EarliestDeadline = by_distance_lawful

pub coded_lawful : (codes : List Code) → IsLawfulChoice (coded codes)
coded_lawful codes = record { reverses = λ k. (law k).reverses k; carries = λ k. (law k).carries k; repeats = λ k. (law k).repeats k }
  where
    law : (k : Core) → IsLawfulChoice (numbered (ranks_by (code_at codes k)))
    law k = numbered_lawful (ranks_by (code_at codes k)) (ranks_lawful (code_at codes k))
