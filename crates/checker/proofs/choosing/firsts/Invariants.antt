use Rattle.std.proofs.Common.{◌≡◌, ◌-◌, None, length}
use Rattle.std.specs.Prelude.{slice_index_or}
use Rattle.policy.specs.declared.cores.Core.{Core}
use Rattle.plan.specs.Contents.{contents}
use Rattle.model.specs.Memory.{times}
use Rattle.checker.specs.Choosing.{FirstBelow}
use Rattle.checker.proofs.choosing.firsts.Given as goal

abbrev pub invariant-loop-place : goal.invariant-loop-place
invariant-loop-place g l = record {
  whole : length l.best ≡ 8;
  firsts : (c : Core) → FirstBelow (contents l.plan) (g.D.Discipline.first l.d) l.t (times (contents l.plan) l.state) c l.place (slice_index_or l.best (c.number - 1) None);
}
