use Rattle.std.proofs.Common.{[], map, sym, refl, ◌∙◌, subst, subst₂, arith}
use Rattle.std.proofs.lemmas.List.{length-set, take_all}
use Rattle.plan.specs.Contents.{contents}
use Rattle.samples.specs.Mixtures.{asked, said, AllAnswered}
use Rattle.samples.proofs.Mixing.{none_answered, call_more}
use Rattle.samples.proofs.mixture.make_all.Goals as goal

pub loop-place-init : goal.loop-place-init
loop-place-init c = record {
  long = refl;
  made = subst (AllAnswered [] []) (sym c.new-plan.ensures.holds) none_answered;
}

pub loop-place-preserved : goal.loop-place-preserved
loop-place-preserved c =
    let inv = c.loop-place.invariant in record {
      long = length-set _ _ _ ∙ inv.long;
      made =
          call_more _ _ c.loop-place.place _ c.make.result _ _
          (omega arith) (omega (arith, inv.long)) inv.made c.make.ensures;
    }

pub returns : goal.returns
returns c =
    let n = c.loop-place.place in
    let left = contents c.loop-place.plan in
    let inv = c.loop-place.invariant in (
      left,
      subst₂ (λ calls replies. AllAnswered (map asked calls) (map said replies) left)
          (take_all n c.args.calls.now (omega arith))
          (take_all n c.loop-place.answers (omega (arith, inv.long)))
          inv.made,
    )
