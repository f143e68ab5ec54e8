use Rattle.std.proofs.Common.{◌+◌, ◌-◌, ◌≤◌}
use Rattle.plan.specs.Contents.{contents}
use Rattle.checker.specs.Reaching.{ReachesTo}
use Rattle.checker.proofs.following.reaching.reach.Given as goal

abbrev pub invariant-loop-number : goal.invariant-loop-number
invariant-loop-number l = record {
  inside : l.number ≤ l.number-end + 1;
  reached : ReachesTo (contents l.moment.plan.now) l.moment.time l.state.left (l.number - 1) l.low.0 l.high.0;
}
