use Rattle.std.proofs.Common.{◌≡◌, ◌+◌, ◌-◌, ◌∙◌, ◌<◌, Some, None, Option, get_or, length, length-set, ap, sym, rules, arith}
use Rattle.std.proofs.lemmas.Bool.{true≢false}
use Rattle.std.proofs.lemmas.List.{get_or_default}
use Rattle.policy.specs.declared.candidates.Candidate.{Candidate}
use Rattle.plan.specs.Contents.{contents, count, Known}
use Rattle.model.specs.Memory.{times}
use Rattle.checker.specs.Choosing.{FirstBelow}
use Rattle.checker.proofs.Leading.{first_runs}
use Rattle.checker.proofs.Passing.{told_of, pass_skips, pass_stays, pass_yields}
use Rattle.checker.proofs.choosing.firsts.Goals as goal
use Rattle.checker.proofs.choosing.firsts.Goals.{in-Some+then-not-beaten+then-ready, in-Some+else-not-beaten, else-not-beaten-via-then-not-beaten+else-ready, else-not-beaten-via-else-not-beaten, in_default}

pub loop-place-preserved : goal.loop-place-preserved
loop-place-preserved g c =
    let p = contents c.args.plan.now in
    let D = g.D.Discipline.first c.args.d.now in
    let law = g.met.D.Discipline.lawful c.args.d.now in
    let u = times p c.args.state.now in
    let n = c.loop-place.place in
    let best = c.loop-place.best in
    let inv = c.loop-place.invariant in
    let known : Known p (n + 1) = (omega arith, omega arith) in
    elim c.match-working.branch [
      | in-Some+then-not-beaten+then-ready w ↦ (
          let core = w.place-slot.result in
          let was : Option Candidate = get_or best core w.index-best-slot.result in
          let inside : core < length best = omega (arith, inv.whole, w.place-slot.ensures.inside) in
          record {
            whole = ap length w.best-is ∙ length-set best core (Some w.in-Some.next.candidate) ∙ inv.whole;
            firsts = λ k. rw w.best-is (pass_yields p D law c.args.t u n best inv.firsts inv.whole w.in-Some.next.core w.in-Some.next.candidate w.in-Some.ensures core w.place-slot.ensures.value was (get_or_default best core w.index-best-slot.result was inside) w.is_some_and-beaten.result (told_of w.is_some_and-beaten.result (λ x. D w.in-Some.next.core x w.in-Some.next.candidate c.args.t) was w.is_some_and-beaten.ensures (λ x q. search rules)) w.if-not-beaten.true (w.ready.ensures.0 w.if-ready.true).1 k);
          })
      | in-Some+else-not-beaten w ↦ (
          let core = w.place-slot.result in
          let was : Option Candidate = get_or best core w.index-best-slot.result in
          let inside : core < length best = omega (arith, inv.whole, w.place-slot.ensures.inside) in
          record {
            whole = ap length w.best-is ∙ inv.whole;
            firsts = λ k. rw w.best-is (
                elim w.else-not-beaten.branch [
                  | else-not-beaten-via-then-not-beaten+else-ready v ↦ pass_skips p D law c.args.t u n best inv.firsts (λ r. true≢false (sym (v.ready.ensures.1 (known, r)) ∙ v.if-ready.false)) k
                  | else-not-beaten-via-else-not-beaten v ↦ pass_stays p D law c.args.t u n best inv.firsts inv.whole w.in-Some.next.core w.in-Some.next.candidate w.in-Some.ensures core w.place-slot.ensures.value was (get_or_default best core w.index-best-slot.result was inside) w.is_some_and-beaten.result (told_of w.is_some_and-beaten.result (λ x. D w.in-Some.next.core x w.in-Some.next.candidate c.args.t) was w.is_some_and-beaten.ensures (λ x q. search rules)) v.if-not-beaten.false k
                ]);
          })
      | in_default w ↦ record {
        whole = ap length w.best-is ∙ inv.whole;
        firsts = λ k. rw w.best-is (pass_skips p D law c.args.t u n best inv.firsts (λ r. omega (arith, w.in_default.ensures known, r.working)) k);
      }
    ]

pub returns : goal.returns
returns g c k =
    let p = contents c.args.plan.now in
    let D = g.D.Discipline.first c.args.d.now in
    let u = times p c.args.state.now in
    let end : c.loop-place.place ≡ count p = omega arith in
    let all : FirstBelow p D c.args.t u k (count p) (get_or c.loop-place.best (k.number - 1) None) = rw end at c.loop-place.invariant.firsts k in
    first_runs p D (g.met.D.Discipline.lawful c.args.d.now) c.args.t u k _ all
