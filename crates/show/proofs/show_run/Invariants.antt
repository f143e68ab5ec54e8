use Rattle.std.proofs.Common.{◌≡◌, ◌-◌, ◌≤◌, length, drop}
use Rattle.plan.specs.Contents.{contents}
use Rattle.show.specs.Runs.{RunWith}
use Rattle.show.proofs.show_run.Given as goal

abbrev pub invariant-loop-t : goal.invariant-loop-t
invariant-loop-t g l =
    let used = length l.times - length l.rest in
    record {
      few : length l.rest ≤ length l.times;
      unused : l.rest ≡ drop used l.times;
      run : RunWith (contents l.plan) (g.D.Discipline.first l.d) l.times l.t-counter used l.state;
    }
