use Rattle.std.proofs.Common.{◌≡◌, ◌↔◌, drop, fold}
use Rattle.plan.specs.declared.refusals.Refusal.{Refusal}
use Rattle.plan.specs.Contents.{contents, empty}
use Rattle.samples.specs.Plans.{called, AllTaken, FirstRefused, plan_of}
use Rattle.samples.proofs.Sample.plan.Given as goal

-- what the calls to come make of the plan is the plan of the sample; and where they are all taken, or all calls are, or they are refused, so it is for the others
abbrev pub invariant-loop-call : goal.invariant-loop-call
invariant-loop-call l =
    (fold called (contents l.plan) (drop l.call-index l.fn.self.calls) ≡ plan_of l.fn.self)
    × (AllTaken empty l.fn.self.calls ↔ AllTaken (contents l.plan) (drop l.call-index l.fn.self.calls))
    × ((e : Refusal) → FirstRefused (contents l.plan) (drop l.call-index l.fn.self.calls) e → FirstRefused empty l.fn.self.calls e)
