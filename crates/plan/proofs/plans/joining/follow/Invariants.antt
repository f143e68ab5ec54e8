use Rattle.plan.proofs.Routes.{Got}
use Rattle.plan.proofs.plans.joining.follow.Given as goal

abbrev pub invariant-loop-b : goal.invariant-loop-b
invariant-loop-b l = Got l.joins l.from l.b l.next.items
