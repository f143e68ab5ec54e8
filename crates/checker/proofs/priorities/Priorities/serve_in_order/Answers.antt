use Rattle.std.proofs.Common.{◌≡◌, ◌<◌, true, false, length, get_or, ap, refl, arith}
use Rattle.std.proofs.lemmas.Bool.Decides.{not_from_Decides}
use Rattle.plan.specs.Contents.{contents}
use Rattle.plan.proofs.Facts.{sound}
use Rattle.model.specs.Units.{Ready}
use Rattle.model.specs.Memory.{times}
use Rattle.checker.specs.Orders.{Leads}
use Rattle.checker.proofs.Leaders.{core_of, lost_skip, lost_take, leader_works, busy_core, busy_same, busy_idle, free_core, busy_more}
use Rattle.checker.proofs.priorities.Priorities.serve_in_order.Goals as goal
use Rattle.checker.proofs.priorities.Priorities.serve_in_order.Goals.{then-not-busy-core+then-ready, else-not-busy-core, else-not-busy-core-via-then-not-busy-core+else-ready, else-not-busy-core-via-else-not-busy-core}

pub loop-place-preserved : goal.loop-place-preserved
loop-place-preserved c =
    let p = contents c.args.self.now.plan.now in
    let ok = sound c.args.self.now.plan.now in
    let few = ok.few in
    let u = times p c.args.state in
    let was = c.args.state.left in
    let xs = c.args.self.now.places.items in
    let each = c.args.self.now.each in
    let k = c.loop-place.place-index in
    let before = c.loop-place.invariant.lost in
    let busy = c.loop-place.invariant.busy in
    let e = c.as_slice-place-items.ensures.value in
    let inside : k < length xs = omega (arith, ap length e) in
    let known = each.known k inside in
    let core = c.args.self.now.on_cores (get_or xs k 0) known in
    let low : core_of p xs k < 9 = omega (arith, (ok.ranges (get_or xs k 0) known).4) in
    elim c.if-not-busy-core.branch [
      | then-not-busy-core+then-ready w ↦ (
          let ready : Ready p u (get_or xs k 0) = rw e at (w.ready.ensures.0 w.if-ready.true) in
          let leads : Leads p u xs k = free_core p u xs was k c.loop-place.busy busy low ready (rw (e, core) at w.if-not-busy-core.true) in
          record {
            lost = rw (w.served-is, e) (lost_take p u xs was k each inside leads c.loop-place.served.0 before few c.args.state.whole (leader_works p u xs was k each inside leads c.loop-place.served.0 before refl));
            busy = rw (w.busy-is, e, core) (busy_more p u xs was k c.loop-place.busy busy low ready);
          })
      | else-not-busy-core w ↦
          elim w.else-not-busy-core.branch [
            | else-not-busy-core-via-then-not-busy-core+else-ready v ↦ (
                let idle : ¬ Ready p u (get_or xs k 0) = rw e at (not_from_Decides _ v.ready.ensures v.if-ready.false) in
                record {
                  lost = rw w.served-is (lost_skip p u xs was k c.loop-place.served.0 (λ leads. idle leads.ready) before);
                  busy = rw w.busy-is (busy_idle p u xs was k c.loop-place.busy busy idle);
                })
            | else-not-busy-core-via-else-not-busy-core v ↦ (
                let taken : get_or c.loop-place.busy (core_of p xs k) false ≡ true = rw (e, core) at v.if-not-busy-core.false in
                record {
                  lost = rw w.served-is (lost_skip p u xs was k c.loop-place.served.0 (busy_core p u xs was k c.loop-place.busy busy taken) before);
                  busy = rw w.busy-is (busy_same p u xs was k c.loop-place.busy busy taken);
                })
          ]
    ]
