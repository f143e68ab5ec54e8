use Rattle.std.proofs.Common.{◌≡◌, subst}
use Rattle.plan.specs.declared.plans.Plan.{Plan}
use Rattle.plan.specs.Contents.{contents}
use Rattle.plan.proofs.Facts.{sound}
use Rattle.model.specs.Units.{Served}
use Rattle.model.specs.Memory.{times}
use Rattle.checker.proofs.Only.{served_below}
use Rattle.checker.proofs.moments.Moment.serve.Goals as goal

pub returns-in-Some-clause-served : goal.returns-in-Some-clause-served
returns-in-Some-clause-served g c = λ prepared.
    subst (λ (q : Plan). Served (contents q) (g.D.Discipline.first c.args.d.now) c.args.self.now.time
    (times (contents q) c.args.state) (times (contents q) c.serve.result))
    (c.args.self.now.one_plan _ c.in-Some.is) (c.serve.ensures.served (prepared _ c.in-Some.is))

pub returns-in-None-clause-fewer : goal.returns-in-None-clause-fewer
returns-in-None-clause-fewer g c =
    served_below (contents c.args.self.now.plan.now) (g.D.Discipline.first c.args.d.now) (sound c.args.self.now.plan.now)
    c.args.self.now.time c.args.state c.serve-in-None.result c.serve-in-None.ensures.served c.serve-in-None.ensures.rest
