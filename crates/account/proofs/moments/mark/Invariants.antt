use Rattle.std.proofs.Common.{◌≡◌, take}
use Rattle.gather.specs.Growth.{Grown}
use Rattle.account.proofs.moments.mark.Given as goal

-- the states before this one are among the marks
abbrev pub invariant-loop-state : goal.invariant-loop-state
invariant-loop-state g l = record {
  adds :
      Grown (g.M.Table.members l.initial.marks) (take l.state-index l.states)
      (g.M.Table.members l.marks);
  same_room : g.M.Table.room l.marks ≡ g.M.Table.room l.initial.marks;
}
