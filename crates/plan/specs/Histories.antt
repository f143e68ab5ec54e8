-- Sequences of calls on one plan, the first on a new one.
use Rattle.std.specs.Prelude.{ℕ, ◌+◌, List, [], ◌∷◌, ◌++◌, Ok, Err, Result}
use Rattle.plan.specs.declared.handlers.Handler.{Handler}
use Rattle.plan.specs.declared.refusals.Refusal.{Refusal}
use Rattle.plan.specs.Rows.{FitsWords}
use Rattle.plan.specs.Contents.{Contents, empty}
use Rattle.plan.specs.Calls.{Registers, Joins, Reseats}

-- a call with its answer
pub data Call : Type 0 where
  registered : Handler → Result ℕ Refusal → Call
  joined : ℕ → ℕ → Result (Unit {0}) Refusal → Call
  reseated : ℕ → ℕ → Result (Unit {0}) Refusal → Call

-- the call, made on a plan that holds k, leaves it with next; the handler that is registered has
-- numbers of 16 bits, as every one that can be passed
abbrev pub Makes : Contents → Call → Contents → Type 0
Makes k (registered h r) next = FitsWords h × Registers k h r next
Makes k (joined a b r) next = Joins k a b r next
Makes k (reseated n c r) next = Reseats k n c r next

-- these calls, made one after another on a new plan, leave it with k
pub data After : List Call → Contents → Type 0 where
  new : After [] empty
  then : {calls : List Call} {k next : Contents} (call : Call) → After calls k → Makes k call next → After (calls ++ call ∷ []) next

-- 1 for an accepted register, 0 for every other call
abbrev pub registers_one : Call → ℕ
registers_one (registered h (Ok n)) = 1
registers_one (registered h (Err e)) = 0
registers_one (joined a b r) = 0
registers_one (reseated n c r) = 0

-- how many registers were accepted
abbrev pub accepted : List Call → ℕ
accepted [] = 0
accepted (c ∷ cs) = registers_one c + accepted cs
