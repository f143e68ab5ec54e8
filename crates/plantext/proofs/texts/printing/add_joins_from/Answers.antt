use Rattle.std.proofs.Common.{refl, arith}
use Rattle.plantext.proofs.Adding.{room_here, added_next, added_last}
use Rattle.plantext.proofs.texts.printing.add_joins_from.Goals as goal

pub add_if_joined-requires : goal.add_if_joined-requires
add_if_joined-requires c = room_here _ _ _ _ _ refl c.requires _ _ c.loop-second.invariant (omega (arith, c.count-second-end.ensures))

pub loop-second-preserved : goal.loop-second-preserved
loop-second-preserved c = added_next _ _ _ _ _ _ c.loop-second.invariant c.add_if_joined.ensures (omega (arith, c.count-second-end.ensures))

pub returns-2 : goal.returns-2
returns-2 c = added_last _ _ _ _ _ _ c.loop-second.invariant c.add_if_joined.ensures (omega (arith, c.count-second-end.ensures))
