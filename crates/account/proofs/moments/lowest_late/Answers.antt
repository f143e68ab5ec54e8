use Rattle.std.proofs.Common.{◌≡◌, ◌+◌, ◌-◌, sym, ◌∙◌, subst, arith, below_more}
use Rattle.std.proofs.lemmas.Bool.{true≢false}
use Rattle.plan.specs.Contents.{contents, Known}
use Rattle.checker.specs.Fronts.{LateInOne}
use Rattle.account.proofs.moments.lowest_late.Goals as goal

pub loop-place-init : goal.loop-place-init
loop-place-init c i lt = absurd (omega arith)

pub loop-place-preserved : goal.loop-place-preserved
loop-place-preserved c =
    let p = contents c.args.plan.now in
    let t = c.args.time in
    let n = c.loop-place.place in
    let back : n + 1 - 1 ≡ n = omega arith in
    let known : Known p (n + 1) = (omega arith, omega (arith, c.count-place-end.ensures)) in
    below_more (λ i. ¬ LateInOne p t c.args.states.now i) n c.loop-place.invariant
    (λ late. true≢false (sym (c.late_in_one.ensures.1 (known, subst (LateInOne p t c.args.states.now) (sym back) late)) ∙ c.if-late_in_one.false))

pub returns-then-late_in_one : goal.returns-then-late_in_one
returns-then-late_in_one c =
    let p = contents c.args.plan.now in
    let n = c.loop-place.place in
    let back : n + 1 - 1 ≡ n = omega arith in
    let late = c.late_in_one.ensures.0 c.if-late_in_one.true in
    (n, omega arith, subst (LateInOne p c.args.time c.args.states.now) back late.1, c.loop-place.invariant)

pub returns : goal.returns
returns c i late =
    let known = late.2.known in
    c.loop-place.invariant i (omega (arith, known, c.count-place-end.ensures)) late
