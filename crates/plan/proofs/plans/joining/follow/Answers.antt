use Rattle.std.proofs.lemmas.Bool.Decides.{not_from_Decides}
use Rattle.plan.proofs.Routes.{got_push, got_skip}
use Rattle.plan.proofs.plans.joining.follow.Goals as goal
use Rattle.plan.proofs.plans.joining.follow.Goals.{then-led, else-led}

pub loop-b-preserved : goal.loop-b-preserved
loop-b-preserved c =
    elim c.if-led.branch [
      | then-led w ↦ rw (w.next-is, w.push.ensures.items) (got_push c.loop-b.invariant (c.led.ensures.0 w.if-led.true))
      | else-led w ↦ rw w.next-is (got_skip c.loop-b.invariant (not_from_Decides _ c.led.ensures w.if-led.false))
    ]
