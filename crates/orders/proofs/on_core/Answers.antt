use Rattle.std.proofs.Common.{◌≡◌, ◌+◌, ◌-◌, subst, arith}
use Rattle.plan.specs.Contents.{contents}
use Rattle.orders.specs.Rows.{IsOn, none, other, on}
use Rattle.orders.proofs.on_core.Goals as goal
use Rattle.orders.proofs.on_core.Goals.{in-Some+in_ok-push, in_default}

pub loop-number-init : goal.loop-number-init
loop-number-init c = record { from = omega arith; row = rw c.new-row.ensures.items none }

pub loop-number-preserved : goal.loop-number-preserved
loop-number-preserved c =
    let p = contents c.args.plan.now in
    let k = c.args.core in
    let n = c.loop-number.number in
    let from = c.loop-number.invariant.from in
    let row = c.loop-number.invariant.row in
    let e : n + 1 - 1 ≡ (n - 1) + 1 = omega arith in
    let is : n ≡ (n - 1) + 1 = omega arith in
    record {
      from = omega arith;
      row = elim c.match-candidate_on.branch [
        | in-Some+in_ok-push w ↦
            rw (e, w.row-is, w.in_ok-push.ensures.items)
            (on row (subst (λ m. IsOn p k m w.in-Some.candidate) is w.in-Some.ensures))
        | in_default w ↦ rw (e, w.row-is) (other row (w.in_default.ensures (omega arith, omega arith)))
      ];
    }
