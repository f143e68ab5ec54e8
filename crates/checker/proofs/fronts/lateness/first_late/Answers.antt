use Rattle.std.proofs.Common.{rules}
use Rattle.plan.specs.Contents.{contents}
use Rattle.model.specs.Runs.{Misses}
use Rattle.checker.specs.Moments.{Calm}
use Rattle.checker.specs.Fronts.{LateInOne, Lowest}
use Rattle.checker.proofs.Watching.{calm_late, lowest_same, late_misses, misses_late}
use Rattle.checker.proofs.fronts.lateness.first_late.Goals as goal

pub returns-then-calm-gt0-clause-rows : goal.returns-then-calm-gt0-clause-rows
returns-then-calm-gt0-clause-rows g c =
    let calm : Calm (contents c.args.moment.now.plan.now) c.args.moment.now.time c.calm.result = search rules in
    calm_late (contents c.args.moment.now.plan.now) c.args.moment.now.time (g.W.Table.members c.args.front.now) c.calm.result calm c.if-calm-gt0.true

pub returns-then-calm-gt0-clause-misses : goal.returns-then-calm-gt0-clause-misses
returns-then-calm-gt0-clause-misses g c = λ D f i m.
    let p = contents c.args.moment.now.plan.now in
    let t = c.args.moment.now.time in
    let rows = g.W.Table.members c.args.front.now in
    returns-then-calm-gt0-clause-rows g c i (misses_late p D t rows f i m)

pub returns-clause-misses : goal.returns-clause-misses
returns-clause-misses g c = λ D f.
    let p = contents c.args.moment.now.plan.now in
    let t = c.args.moment.now.time in
    let rows = g.W.Table.members c.args.front.now in
    let found : Lowest (LateInOne p t rows) c.lowest_late.result = rw (← c.rows.ensures) c.lowest_late.ensures in
    lowest_same (LateInOne p t rows) (Misses p D t) c.lowest_late.result (late_misses p D t rows f) (misses_late p D t rows f) found
