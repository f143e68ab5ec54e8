use Rattle.std.proofs.Common.{refl}
use Rattle.plan.specs.Contents.{contents}
use Rattle.plan.proofs.Facts.{sound}
use Rattle.model.specs.Memory.{times}
use Rattle.checker.proofs.Only.{served_below}
use Rattle.checker.proofs.Leaders.{leaders_served, leaders_rest}
use Rattle.checker.proofs.priorities.Priorities.serve.Goals as goal

pub returns-then-self-clause-served : goal.returns-then-self-clause-served
returns-then-self-clause-served g c = λ prepared.
    let p = contents c.args.self.now.plan.now in
    leaders_served p (g.D.Discipline.first c.args.d.now) c.args.t (times p c.args.state) c.args.self.now.places.items c.args.self.now.each (prepared c.if-self.true)
    (g.met.D.Discipline.lawful c.args.d.now) c.args.state.left c.serve_in_order.result.left (sound c.args.self.now.plan.now).few c.args.state.whole refl c.serve_in_order.ensures

pub returns-then-self-clause-rest : goal.returns-then-self-clause-rest
returns-then-self-clause-rest g c =
    let p = contents c.args.self.now.plan.now in
    leaders_rest p (times p c.args.state) c.args.self.now.places.items c.args.self.now.each c.args.state.left c.serve_in_order.result.left c.serve_in_order.ensures

pub returns-else-self-clause-fewer : goal.returns-else-self-clause-fewer
returns-else-self-clause-fewer g c =
    served_below (contents c.args.self.now.plan.now) (g.D.Discipline.first c.args.d.now) (sound c.args.self.now.plan.now) c.args.t
    c.args.state c.serve.result c.serve.ensures.served c.serve.ensures.rest
