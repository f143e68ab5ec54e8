use Rattle.std.proofs.Common.{◌≡◌, length}
use Rattle.plan.specs.Contents.{contents}
use Rattle.samples.proofs.Mixing.{Made}
use Rattle.samples.proofs.mixture.make_all.Given as goal

-- the calls before this place are made
abbrev pub invariant-loop-place : goal.invariant-loop-place
invariant-loop-place l = record {
  long : length l.answers ≡ 12;
  made : Made l.calls l.answers l.place (contents l.plan);
}
