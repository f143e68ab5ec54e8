use Rattle.std.proofs.Common.{rules, refl, ◌∙◌}
use Rattle.std.proofs.lemmas.Result.{err_from_is_err_and}
use Rattle.plan.specs.Contents.{contents}
use Rattle.checker.specs.Successors.{SuccessorsOf}
use Rattle.checker.proofs.Spreading.{spread_none, spread_put, spread_over, spread_all}
use Rattle.checker.proofs.fronts.spread_all.Goals as goal

pub loop-next-init : goal.loop-next-init
loop-next-init g c = record { spreads = spread_none _ _; same_room = refl; frame = g.met.W.Table.still _ }

pub loop-next-preserved : goal.loop-next-preserved
loop-next-preserved g c = record {
  spreads = spread_put c.loop-next.invariant.spreads c.in-Some.ensures.steps _ c.in_ok-put.ensures.joins;
  same_room = c.put.ensures.same_room ∙ c.loop-next.invariant.same_room;
  frame = g.met.W.Table.further _ _ _ c.loop-next.invariant.frame c.put.ensures.frame;
}

pub returns-in_err-put-clause-joins : goal.returns-in_err-put-clause-joins
returns-in_err-put-clause-joins g c =
    let p = err_from_is_err_and c.from_residual.result c.from_residual.ensures.1 in
    let all : SuccessorsOf (contents c.args.moment.now.plan.now) (g.D.Discipline.first c.args.d.now) c.args.moment.now.time c.args.state.now c.into_iter-next-iterator.result = search rules in
    rw (p.1, ← c.loop-next.invariant.same_room) (spread_over c.loop-next.invariant.spreads c.in-Some.ensures.steps all _ c.in_err-put.ensures.joins)

pub returns-clause-joins : goal.returns-clause-joins
returns-clause-joins g c =
    let all : SuccessorsOf (contents c.args.moment.now.plan.now) (g.D.Discipline.first c.args.d.now) c.args.moment.now.time c.args.state.now c.into_iter-next-iterator.result = search rules in
    spread_all all c.loop-next.invariant.spreads c.in-None.ensures.steps.0
