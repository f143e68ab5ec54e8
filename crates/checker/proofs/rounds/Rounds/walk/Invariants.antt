use Rattle.std.proofs.Common.{ℕ, ◌-◌, ◌≤◌}
use Rattle.checker.specs.Walks.{SamePlan, Goes, Later}
use Rattle.checker.proofs.rounds.Rounds.walk.Given as goal

abbrev pub invariant-loop-left : goal.invariant-loop-left
invariant-loop-left g l = record {
  inside : l.left ≤ l.units;
  same : SamePlan g.D.Discipline.first g.W.Table.members g.W.Table.room g.O.Observer.seen l.initial.self l.self;
  walked : (w : ℕ) → Goes g.D.Discipline.first g.W.Table.members g.W.Table.room g.O.Observer.seen l.units w l.initial.self → Later g.D.Discipline.first g.W.Table.members g.W.Table.room g.O.Observer.seen (l.units - l.left) w l.initial.self l.self;
}

abbrev pub decreases-loop-left : goal.decreases-loop-left
decreases-loop-left g l = l.left
