use Rattle.std.proofs.Common.{refl, arith}
use Rattle.planfile.proofs.WritingSteps.{room_here, below_next, below_last}
use Rattle.planfile.proofs.writing.put_joins_from.Goals as goal

pub put_join-next-requires : goal.put_join-next-requires
put_join-next-requires c = room_here _ _ _ refl _ _ c.requires _ _ _ c.loop-second.invariant (omega (arith, c.count-second-end.ensures))

pub loop-second-preserved : goal.loop-second-preserved
loop-second-preserved c = below_next _ _ _ refl _ _ c.requires _ _ _ c.loop-second.invariant (omega (arith, c.count-second-end.ensures)) _ _ c.put_join-next.ensures

pub returns-2 : goal.returns-2
returns-2 c = below_last _ _ _ refl _ _ c.requires _ _ _ c.loop-second.invariant (omega (arith, c.count-second-end.ensures)) _ _ c.put_join-next.ensures
