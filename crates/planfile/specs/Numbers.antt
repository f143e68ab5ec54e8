-- The numbers of the flaws, and of the causes of a fault.
use Rattle.std.specs.Prelude.{ℕ}
use Rattle.plan.specs.Numbers.{refusal_number}
use Rattle.planfile.specs.declared.faults.Cause.{Cause}
use Rattle.planfile.specs.declared.faults.Cause.TheVariants.{File, Plan}
use Rattle.planfile.specs.declared.faults.Flaw.{Flaw}
use Rattle.planfile.specs.declared.faults.Flaw.TheVariants.{Cut, UnknownKind, OutOfOrder, NoSuchCode, NoRoom}

-- 10 to 14, in the order of the enum
abbrev pub flaw_number : Flaw → ℕ
flaw_number Cut = 10
flaw_number UnknownKind = 11
flaw_number OutOfOrder = 12
flaw_number NoSuchCode = 13
flaw_number NoRoom = 14

-- the number of the test, in whichever layer
abbrev pub cause_number : Cause → ℕ
cause_number (File flaw) = flaw_number flaw
cause_number (Plan refusal) = refusal_number refusal
