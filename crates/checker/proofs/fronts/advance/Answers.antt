use Rattle.std.proofs.Common.{◌∙◌}
use Rattle.std.proofs.lemmas.Result.{err_from_is_err_and}
use Rattle.checker.proofs.Advancing.{joined_all, joined_more, overrun_from}
use Rattle.checker.proofs.Onward.{front_onward, outnumbered}
use Rattle.plan.proofs.Facts.{sound}
use Rattle.plan.specs.Contents.{contents}
use Rattle.model.proofs.Extend.{beginnings_go_on}
use Rattle.model.proofs.Repeat.{units_repeat}
use Rattle.checker.proofs.fronts.advance.Goals as goal

pub loop-state-preserved : goal.loop-state-preserved
loop-state-preserved g c = record {
  joins = joined_more _ _ _ _ _ _ c.loop-state.invariant.joins _ c.loop-state-test.true c.state-item.is _ (rw (c.prepare.ensures.of_plan, c.prepare.ensures.clock) at c.in_ok-spread.ensures.joins);
  same_room = c.spread.ensures.same_room ∙ c.loop-state.invariant.same_room;
  frame = g.met.W.Table.further _ _ _ c.loop-state.invariant.frame c.spread.ensures.frame;
}

pub returns-in_err-spread-clause-joins : goal.returns-in_err-spread-clause-joins
returns-in_err-spread-clause-joins g c =
    let p = err_from_is_err_and c.from_residual.result c.from_residual.ensures.1 in
    let room = c.loop-state.invariant.same_room ∙ c.clear.ensures.same_room in
    rw (p.1, ← room, ← c.rows-state-items.ensures) (overrun_from _ _ _ _ _ _ c.loop-state.invariant.joins _ c.loop-state-test.true c.state-item.is _ (rw (c.prepare.ensures.of_plan, c.prepare.ensures.clock) at c.in_err-spread.ensures.joins))

pub returns-clause-onward : goal.returns-clause-onward
returns-clause-onward g c = λ f.
    let j = joined_all _ _ _ _ _ _ c.loop-state.invariant.joins c.loop-state-test.false in
    front_onward (contents c.args.moment.now.plan.now) (g.D.Discipline.first c.args.d.now) (sound c.args.moment.now.plan.now) c.args.moment.now.time (g.W.Table.members c.args.front.now) (g.W.Table.members c.loop-state.back) f (rw c.rows-state-items.ensures at j)

pub returns-in_err-spread-clause-onward : goal.returns-in_err-spread-clause-onward
returns-in_err-spread-clause-onward g c = λ f.
    let p = err_from_is_err_and c.from_residual.result c.from_residual.ensures.1 in
    let room = c.loop-state.invariant.same_room ∙ c.clear.ensures.same_room in
    let o = overrun_from _ _ _ _ _ _ c.loop-state.invariant.joins _ c.loop-state-test.true c.state-item.is _ (rw (c.prepare.ensures.of_plan, c.prepare.ensures.clock) at c.in_err-spread.ensures.joins) in
    rw (p.1, ← room) (outnumbered (contents c.args.moment.now.plan.now) (g.D.Discipline.first c.args.d.now) (sound c.args.moment.now.plan.now) c.args.moment.now.time (g.W.Table.members c.args.front.now) f _ (rw c.rows-state-items.ensures at o) c.state-item.result)

pub returns-clause-goes_on : goal.returns-clause-goes_on
returns-clause-goes_on g c = beginnings_go_on

pub returns-in_err-spread-clause-goes_on : goal.returns-in_err-spread-clause-goes_on
returns-in_err-spread-clause-goes_on g c = beginnings_go_on

pub returns-clause-repeats : goal.returns-clause-repeats
returns-clause-repeats g c = units_repeat

pub returns-in_err-spread-clause-repeats : goal.returns-in_err-spread-clause-repeats
returns-in_err-spread-clause-repeats g c = units_repeat
