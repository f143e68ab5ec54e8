use Rattle.std.proofs.Common.{rules, ◌≡◌, ◌+◌, ◌∙◌, None, Some, refl, arith}
use Rattle.std.proofs.lemmas.Result.{err_from_is_err_and}
use Rattle.gather.proofs.Ending.{faulted, passed}
use Rattle.plan.specs.Contents.{contents}
use Rattle.model.specs.declared.verdicts.Rows.TheVariants.{Working}
use Rattle.model.specs.declared.verdicts.Verdict.TheVariants.{RowsShort}
use Rattle.model.specs.Runs.{Misses}
use Rattle.checker.specs.Fronts.{Front, Lowest}
use Rattle.checker.specs.Watching.{nothing}
use Rattle.checker.proofs.Looking.{watches_one}
use Rattle.checker.proofs.Units.{short_on, reached_on, missed_on}
use Rattle.checker.proofs.rounds.Rounds.unit.Goals as goal

pub returns-in_err-map_err-clause-walks : goal.returns-in_err-map_err-clause-walks
returns-in_err-map_err-clause-walks g c = λ w (s, lt).
    let p = err_from_is_err_and c.from_residual.result c.from_residual.ensures.1 in
    let next : c.saturating_add-next.result ≡ c.args.self.now.moment.time + 1 = omega (arith, c.time.ensures) in
    let f = faulted _ _ _ c.in_err-map_err.ensures.variant c.in_err-map_err.ensures.cases (c.advance-filled.ensures.onward s.reached.front) in
    let e : c.in_err-map_err.field-0.0 ≡ RowsShort Working c.saturating_add-next.result = search rules in
    rw (p.1, p.2, e, next) (record { stopped = short_on _ _ w _ _ s.reached (rw s.back_room at f.2); looks = nothing })

pub returns-in-None-clause-same : goal.returns-in-None-clause-same
returns-in-None-clause-same g c = record { plan = c.go_on.ensures.of_plan ∙ c.advance-filled.ensures.of_plan; d = refl }

pub returns-in-Some-clause-same : goal.returns-in-Some-clause-same
returns-in-Some-clause-same g c = record { plan = c.go_on.ensures.of_plan ∙ c.advance-filled.ensures.of_plan; d = refl }

pub returns-in-None-clause-walks : goal.returns-in-None-clause-walks
returns-in-None-clause-walks g c = λ w (s, lt).
    let plan : c.go_on.new.self.plan.now ≡ c.args.self.now.moment.plan.now = c.go_on.ensures.of_plan ∙ c.advance-filled.ensures.of_plan in
    let time : c.go_on.new.self.time ≡ c.args.self.now.moment.time + 1 = omega (arith, c.go_on.ensures.clock, c.advance-filled.ensures.clock) in
    let f = passed _ _ c.in_ok-map_err.ensures.variant (c.advance-filled.ensures.onward s.reached.front) in
    let few = g.met.W.Table.fits c.advance-filled.new.back in
    let front : Front (contents c.go_on.new.self.plan.now) (g.D.Discipline.first c.args.self.now.d.now) c.go_on.new.self.time (g.W.Table.members c.swap.new.x) = rw (plan, time, c.swap.ensures.x_after) f in
    let timely : Lowest (Misses (contents c.args.self.now.moment.plan.now) (g.D.Discipline.first c.args.self.now.d.now) (c.args.self.now.moment.time + 1)) None = rw (plan, time) at (c.in-None.ensures.misses _ front) in
    record {
      clock = time;
      stands = record {
        front_room = rw c.swap.ensures.x_after (c.advance-filled.ensures.same_room ∙ s.back_room);
        back_room = rw c.swap.ensures.y_after s.front_room;
        reached = rw (plan, time, c.swap.ensures.x_after) (reached_on _ _ w _ _ s.reached (g.W.Table.members c.advance-filled.new.back) f (omega (arith, few, c.advance-filled.ensures.same_room, s.back_room)) timely);
      };
      looks = rw time (rw (time, plan) at (watches_one g.O.Observer.seen (contents c.go_on.new.self.plan.now) (g.D.Discipline.first c.args.self.now.d.now) c.go_on.new.self.time (g.W.Table.members c.swap.new.x) c.args.self.now.observer c.see.new.self front (rw c.rows.ensures at c.see.ensures)));
    }

pub returns-in-Some-clause-walks : goal.returns-in-Some-clause-walks
returns-in-Some-clause-walks g c = λ w (s, lt).
    let plan : c.go_on.new.self.plan.now ≡ c.args.self.now.moment.plan.now = c.go_on.ensures.of_plan ∙ c.advance-filled.ensures.of_plan in
    let time : c.go_on.new.self.time ≡ c.args.self.now.moment.time + 1 = omega (arith, c.go_on.ensures.clock, c.advance-filled.ensures.clock) in
    let next : c.saturating_add-next.result ≡ c.args.self.now.moment.time + 1 = omega (arith, c.time.ensures) in
    let f = passed _ _ c.in_ok-map_err.ensures.variant (c.advance-filled.ensures.onward s.reached.front) in
    let few = g.met.W.Table.fits c.advance-filled.new.back in
    let front : Front (contents c.go_on.new.self.plan.now) (g.D.Discipline.first c.args.self.now.d.now) c.go_on.new.self.time (g.W.Table.members c.swap.new.x) = rw (plan, time, c.swap.ensures.x_after) f in
    let late : Lowest (Misses (contents c.args.self.now.moment.plan.now) (g.D.Discipline.first c.args.self.now.d.now) (c.args.self.now.moment.time + 1)) (Some c.in-Some.number) = rw (plan, time) at (c.in-Some.ensures.misses _ front) in
    rw next (record {
      stopped = missed_on _ _ w _ _ s.reached (g.W.Table.members c.advance-filled.new.back) f (omega (arith, few, c.advance-filled.ensures.same_room, s.back_room)) c.in-Some.number late;
      looks = rw (time, plan) at (watches_one g.O.Observer.seen (contents c.go_on.new.self.plan.now) (g.D.Discipline.first c.args.self.now.d.now) c.go_on.new.self.time (g.W.Table.members c.swap.new.x) c.args.self.now.observer c.see.new.self front (rw c.rows.ensures at c.see.ensures));
    })
