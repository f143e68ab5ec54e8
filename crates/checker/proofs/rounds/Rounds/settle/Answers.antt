use Rattle.std.proofs.Common.{rules, ◌≡◌, ◌<◌, ◌∙◌, refl, arith}
use Rattle.std.proofs.lemmas.Result.{err_from_is_err_and}
use Rattle.gather.proofs.Ending.{faulted, passed}
use Rattle.plan.specs.Contents.{contents, settling}
use Rattle.plan.proofs.Facts.{sound}
use Rattle.model.specs.declared.verdicts.Rows.TheVariants.{Working}
use Rattle.model.specs.declared.verdicts.Verdict.TheVariants.{RowsShort}
use Rattle.checker.specs.Watching.{nothing}
use Rattle.checker.proofs.Looking.{watches_one}
use Rattle.checker.proofs.Settled.{short_first, start_goes, settled}
use Rattle.checker.proofs.rounds.Rounds.settle.Goals as goal

pub returns-in_err-map_err-clause-settles : goal.returns-in_err-map_err-clause-settles
returns-in_err-map_err-clause-settles g c = λ w clock f b.
    let p = err_from_is_err_and c.from_residual.result c.from_residual.ensures.1 in
    let ok = sound c.args.self.now.moment.plan.now in
    let o = faulted _ _ _ c.in_err-map_err.ensures.variant c.in_err-map_err.ensures.cases (c.begin.ensures.begins (contents c.args.self.now.moment.plan.now) (g.D.Discipline.first c.args.self.now.d.now) ok) in
    let e : c.in_err-map_err.field-0.0 ≡ RowsShort Working 0 = search rules in
    rw (p.1, p.2, e) (record { stopped = short_first _ _ ok w (settling (contents c.args.self.now.moment.plan.now)) (rw f at o.2); looks = nothing })

pub returns-clause-settles : goal.returns-clause-settles
returns-clause-settles g c = λ w clock f b.
    let p = contents c.args.self.now.moment.plan.now in
    let D = g.D.Discipline.first c.args.self.now.d.now in
    let ok = sound c.args.self.now.moment.plan.now in
    let front = passed _ _ c.in_ok-map_err.ensures.variant (c.begin.ensures.begins p D ok) in
    let few = g.met.W.Table.fits c.begin.new.front in
    let look = rw (c.rows.ensures, clock) at c.see.ensures in
    let here = watches_one g.O.Observer.seen p D 0 (g.W.Table.members c.begin.new.front) c.args.self.now.observer c.see.new.self front look in
    let units : c.into.result ≡ settling p = omega (arith, c.into.ensures, c.settling-units.ensures) in
    let short : c.into.result < 65536 = omega (arith, c.into.ensures) in
    let go = start_goes _ _ _ _ _ w c.into.result ok clock (c.begin.ensures.same_room ∙ f) b front few short in
    settled _ _ _ _ _ w c.into.result _ _ _ (record { plan = refl; d = refl }) clock here units short (c.walk.ensures.walks w go)
