use Rattle.std.proofs.Common.{◌≡◌}
use Rattle.checker.proofs.Spreading.{Spreading}
use Rattle.checker.proofs.fronts.spread_all.Given as goal

abbrev pub invariant-loop-next : goal.invariant-loop-next
invariant-loop-next g l = record {
  spreads : Spreading l.initial.next-iterator (g.W.Table.members l.initial.back) l.next-iterator (g.W.Table.members l.back);
  same_room : g.W.Table.room l.back ≡ g.W.Table.room l.initial.back;
  frame : g.W.Table.extended l.initial.back l.back;
}
