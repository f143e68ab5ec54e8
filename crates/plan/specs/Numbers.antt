-- The numbers of the refusals.
use Rattle.std.specs.Prelude.{ℕ}
use Rattle.plan.specs.declared.refusals.Refusal.{Refusal}
use Rattle.plan.specs.declared.refusals.Refusal.TheVariants.{PlanFull, NoPeriod, NoTimes, NoSuchCore, LongRound, NoSuchHandler, OtherTimes, Circle, UnfitTables}

-- 1 to 9, in the order of the enum
abbrev pub refusal_number : Refusal → ℕ
refusal_number PlanFull = 1
refusal_number NoPeriod = 2
refusal_number NoTimes = 3
refusal_number NoSuchCore = 4
refusal_number LongRound = 5
refusal_number NoSuchHandler = 6
refusal_number OtherTimes = 7
refusal_number Circle = 8
refusal_number UnfitTables = 9
