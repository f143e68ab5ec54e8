use Rattle.std.proofs.Common.{arith}
use Rattle.plan.specs.Contents.{contents}
use Rattle.planfile.proofs.WritingRecords.{handlers_by_number}
use Rattle.planfile.proofs.WritingSteps.{room_here, below_next, below_last}
use Rattle.planfile.proofs.writing.put_handlers.Goals as goal

pub put_handler-next-requires : goal.put_handler-next-requires
put_handler-next-requires c = room_here _ _ _ (handlers_by_number (contents c.args.plan.now)) _ _ c.requires _ _ _ c.loop-number.invariant (omega (arith, c.count-number-end.ensures))

pub loop-number-preserved : goal.loop-number-preserved
loop-number-preserved c = below_next _ _ _ (handlers_by_number (contents c.args.plan.now)) _ _ c.requires _ _ _ c.loop-number.invariant (omega (arith, c.count-number-end.ensures)) _ _ c.put_handler-next.ensures

pub returns-2 : goal.returns-2
returns-2 c = below_last _ _ _ (handlers_by_number (contents c.args.plan.now)) _ _ c.requires _ _ _ c.loop-number.invariant (omega (arith, c.count-number-end.ensures)) _ _ c.put_handler-next.ensures
