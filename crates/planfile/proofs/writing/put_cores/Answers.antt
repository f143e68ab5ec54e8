use Rattle.planfile.proofs.WritingRecords.{cores_by_number}
use Rattle.planfile.proofs.WritingSteps.{room_here, below_next, below_all}
use Rattle.planfile.proofs.writing.put_cores.Goals as goal

pub put-next-requires : goal.put-next-requires
put-next-requires c = room_here _ 8 _ (cores_by_number _ 8 c.told-codes) _ _ c.requires _ _ _ c.loop-core.invariant c.loop-core-test.true

pub loop-core-preserved : goal.loop-core-preserved
loop-core-preserved c = below_next _ 8 _ (cores_by_number _ 8 c.told-codes) _ _ c.requires _ _ _ c.loop-core.invariant c.loop-core-test.true _ _ c.put-next.ensures

pub returns : goal.returns
returns c = below_all _ 8 _ (cores_by_number _ 8 c.told-codes) _ _ c.requires _ _ _ c.loop-core.invariant c.loop-core-test.false
