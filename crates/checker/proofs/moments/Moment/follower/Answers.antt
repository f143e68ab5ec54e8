use Rattle.checker.proofs.Finding.{starters_none, starters_some}
use Rattle.plan.specs.Contents.{contents}
use Rattle.plan.proofs.Facts.{sound}
use Rattle.checker.proofs.Only.{only_successor}
use Rattle.checker.proofs.moments.Moment.follower.Goals as goal

pub returns : goal.returns
returns g c ready =
    only_successor (contents c.args.self.now.plan.now) (g.D.Discipline.first c.args.d.now) (sound c.args.self.now.plan.now) c.args.self.now.time
    c.args.state c.serve.result (c.serve.ensures.served ready) c.serve.ensures.rest (starters_none c.args.self.now.starting c.if-self-ne0.false)

pub returns-then-self-ne0 : goal.returns-then-self-ne0
returns-then-self-ne0 g c _ = starters_some c.args.self.now.starting c.if-self-ne0.true
