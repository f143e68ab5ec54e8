use Rattle.std.proofs.Common.{◌≡◌, subst, refl}
use Rattle.plan.specs.Contents.{contents}
use Rattle.plan.proofs.Facts.{sound}
use Rattle.model.proofs.Choosing.{choices_tell}
use Rattle.checker.specs.Rows.{Below}
use Rattle.model.specs.declared.states.State.{State}
use Rattle.checker.proofs.Spanning.{bounds, follow}
use Rattle.checker.proofs.following.Successors.of.Goals as goal

pub invariant_of-result-clause-below : goal.invariant_of-result-clause-below
invariant_of-result-clause-below g c s e =
    let same : c.serve-low.result ≡ s = cc in
    subst (λ (w : State). Below w.left c.lowered-high.result.left) same
    (bounds (contents c.args.moment.now.plan.now) (sound c.args.moment.now.plan.now) c.args.moment.now.time c.args.state.left
    c.reach-extent.result.low.left c.reach-extent.result.high.left c.reach-extent.ensures
    c.serve-low.result.left c.lowered-high.result.left c.serve-low.ensures.fewer c.lowered-high.ensures)

pub returns : goal.returns
returns g c = record {
  all = λ ready. follow (contents c.args.moment.now.plan.now) (g.D.Discipline.first c.args.d.now) (sound c.args.moment.now.plan.now) c.args.moment.now.time c.args.state
      c.reach-extent.result.low c.reach-extent.result.high c.serve-low.result c.lowered-high.result
      c.reach-extent.ensures (c.serve-low.ensures.served ready) c.serve-low.ensures.rest c.lowered-high.ensures _ refl refl refl;
  tell = choices_tell;
}
