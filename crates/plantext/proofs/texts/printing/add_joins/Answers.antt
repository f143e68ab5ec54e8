use Rattle.std.proofs.Common.{refl, arith}
use Rattle.plantext.proofs.Adding.{room_here, added_next, added_last}
use Rattle.plantext.proofs.texts.printing.add_joins.Goals as goal

pub add_joins_from-requires : goal.add_joins_from-requires
add_joins_from-requires c = room_here _ _ _ _ _ refl c.requires _ _ c.loop-first.invariant (omega (arith, c.count-first-end.ensures))

pub loop-first-preserved : goal.loop-first-preserved
loop-first-preserved c = added_next _ _ _ _ _ _ c.loop-first.invariant c.add_joins_from.ensures (omega (arith, c.count-first-end.ensures))

pub returns-2 : goal.returns-2
returns-2 c = added_last _ _ _ _ _ _ c.loop-first.invariant c.add_joins_from.ensures (omega (arith, c.count-first-end.ensures))
