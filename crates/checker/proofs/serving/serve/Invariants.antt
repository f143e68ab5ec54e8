use Rattle.plan.specs.Contents.{contents}
use Rattle.checker.specs.Serving.{ServedTo}
use Rattle.checker.proofs.serving.serve.Given as goal

abbrev pub invariant-loop-core : goal.invariant-loop-core
invariant-loop-core g l = ServedTo (contents l.plan) (g.D.Discipline.first l.d) l.t l.fn.state.left l.core-index l.served.0
