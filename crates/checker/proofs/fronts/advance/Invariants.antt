use Rattle.std.proofs.Common.{◌≡◌, [], take}
use Rattle.plan.specs.Contents.{contents}
use Rattle.checker.specs.Fronts.{FollowsOne, Joined}
use Rattle.checker.proofs.fronts.advance.Given as goal

abbrev pub invariant-loop-state : goal.invariant-loop-state
invariant-loop-state g l = record {
  joins : Joined (FollowsOne (contents l.fn.moment.plan.now) (g.D.Discipline.first l.d) l.fn.moment.time (take l.state-index l.state-items)) [] (g.W.Table.members l.back);
  same_room : g.W.Table.room l.back ≡ g.W.Table.room l.initial.back;
  frame : g.W.Table.extended l.initial.back l.back;
}
