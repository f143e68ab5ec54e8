use Rattle.std.proofs.Common.{rules}
use Rattle.plan.specs.Contents.{contents}
use Rattle.checker.specs.Successors.{OnlySuccessor}
use Rattle.checker.proofs.Spreading.{joins_only}
use Rattle.checker.proofs.fronts.spread.Goals as goal

pub returns-in-Some-clause-joins : goal.returns-in-Some-clause-joins
returns-in-Some-clause-joins g c =
    let one : OnlySuccessor (contents c.args.moment.now.plan.now) (g.D.Discipline.first c.args.d.now) c.args.moment.now.time c.args.state.now c.in-Some.next = search rules in
    joins_only one _ _ _ _ c.put.ensures.joins
