use Rattle.std.proofs.Common.{refl, arith}
use Rattle.planfile.proofs.WritingSteps.{room_here, below_next, below_last}
use Rattle.planfile.proofs.writing.put_joins.Goals as goal

pub put_joins_from-next-requires : goal.put_joins_from-next-requires
put_joins_from-next-requires c = room_here _ _ _ refl _ _ c.requires _ _ _ c.loop-first.invariant (omega (arith, c.count-first-end.ensures))

pub loop-first-preserved : goal.loop-first-preserved
loop-first-preserved c = below_next _ _ _ refl _ _ c.requires _ _ _ c.loop-first.invariant (omega (arith, c.count-first-end.ensures)) _ _ c.put_joins_from-next.ensures

pub returns-2 : goal.returns-2
returns-2 c = below_last _ _ _ refl _ _ c.requires _ _ _ c.loop-first.invariant (omega (arith, c.count-first-end.ensures)) _ _ c.put_joins_from-next.ensures
