use Rattle.std.proofs.Common.{rules, ◌≡◌, ◌+◌, ◌-◌, ◌≤◌, length, drop, Ok, refl, ap, subst, ◌∙◌, arith}
use Rattle.std.proofs.lemmas.List.{drop-drop}
use Rattle.plan.specs.Contents.{contents}
use Rattle.checker.specs.Given.{used_up, GivenThenServed}
use Rattle.show.specs.Runs.{RunWith, first, unit}
use Rattle.show.proofs.show_run.Goals as goal

pub loop-t-init : goal.loop-t-init
loop-t-init g c =
    let list = c.args.times.now in
    let e : length list - length list ≡ 0 = omega arith in
    record { few = omega arith; unused = rw e refl; run = rw e (first c.new-state.ensures.blank) }

pub loop-t-preserved : goal.loop-t-preserved
loop-t-preserved g c =
    let p = contents c.args.plan.now in
    let D = g.D.Discipline.first c.args.d.now in
    let t = c.loop-t.t-counter in
    let list = c.args.times.now in
    let was = c.loop-t.rest.now in
    let now = c.in_ok-taken.taken.rest.now in
    let s = c.loop-t.state in
    let v = c.in_ok-taken.taken.state in
    let had = c.loop-t.invariant in
    let more = used_up was now in
    let e : c.unit_with.result ≡ Ok c.in_ok-taken.taken = search rules in
    let few : length now ≤ length was = rw e at c.unit_with.ensures.few in
    let unused : now ≡ drop more was = rw e at c.unit_with.ensures.unused in
    let served : GivenThenServed p D t was s v more = rw e at c.unit_with.ensures.given in
    let used : (length list - length was) + more ≡ length list - length now =
    omega (arith, had.few, few) in
    record {
      few = omega (arith, had.few, few);
      unused =
          unused ∙ ap (drop more) had.unused ∙ drop-drop more (length list - length was) list
          ∙ ap (λ n. drop n list) used;
      run = subst (λ n. RunWith p D list (t + 1) n v) used
          (unit had.run (subst (λ l. GivenThenServed p D t l s v more) had.unused served));
    }

pub returns : goal.returns
returns g c =
    let end : c.loop-t.t-counter ≡ c.args.units = omega arith in
    (c.loop-t.state, rw (c.saturating_sub.ensures, ← end) c.loop-t.invariant.run)
