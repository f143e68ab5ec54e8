use Rattle.std.proofs.Common.{◌≡◌, ◌≤◌}
use Rattle.policy.specs.declared.cores.Core.{Core}
use Rattle.policy.specs.Codes.{code_in, code_at}
use Rattle.policy.proofs.codes.code_bank.Given as goal

-- the cores gone over answer by their codes
abbrev pub invariant-loop-core : goal.invariant-loop-core
invariant-loop-core l = (k : Core) → k.number ≤ l.core-index → code_in l.bank.table.sides l.bank.right.table.sides k ≡ code_at l.codes k
