use Rattle.plan.specs.Contents.{contents}
use Rattle.model.specs.Memory.{times}
use Rattle.checker.specs.Orders.{LostBy}
use Rattle.checker.proofs.Leaders.{Busy}
use Rattle.checker.proofs.priorities.Priorities.serve_in_order.Given as goal

abbrev pub invariant-loop-place : goal.invariant-loop-place
invariant-loop-place l = record {
  lost : LostBy (contents l.self.plan.now) (times (contents l.self.plan.now) l.state) l.self.places.items l.state.left l.place-index l.served.0;
  busy : Busy (contents l.self.plan.now) (times (contents l.self.plan.now) l.state) l.self.places.items l.place-index l.busy;
}
