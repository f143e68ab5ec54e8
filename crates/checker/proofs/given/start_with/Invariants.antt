use Rattle.std.proofs.Common.{◌+◌, ◌-◌, ◌≤◌}
use Rattle.plan.specs.Contents.{contents}
use Rattle.checker.proofs.Taking.{HadTurns}
use Rattle.checker.proofs.given.start_with.Given as goal

abbrev pub invariant-loop-number : goal.invariant-loop-number
invariant-loop-number l = record {
  inside : l.number ≤ l.number-end + 1;
  had : HadTurns (contents l.plan) l.t l.list l.fn.state.left (l.number - 1) l.state.0 l.rest;
}
