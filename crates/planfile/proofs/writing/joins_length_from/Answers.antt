use Rattle.std.proofs.Common.{arith}
use Rattle.plan.specs.Contents.{contents}
use Rattle.planfile.proofs.Lengths.{joins_from_length}
use Rattle.planfile.proofs.WritingSteps.{counted_within, counted_next, counted_last}
use Rattle.planfile.proofs.writing.joins_length_from.Goals as goal

pub overflow_add-length : goal.overflow_add-length
overflow_add-length c =
    omega (
      arith,
      c.join_length-length.ensures,
      c.count-second-end.ensures,
      counted_within _ _ _ _ c.loop-second.invariant (omega (arith, c.count-second-end.ensures)),
      joins_from_length (contents c.args.plan.now) c.args.first,
    )

pub loop-second-preserved : goal.loop-second-preserved
loop-second-preserved c = rw (c.join_length-length.ensures) (counted_next _ _ _ _ c.loop-second.invariant (omega (arith, c.count-second-end.ensures)))

pub returns-2 : goal.returns-2
returns-2 c = rw (c.join_length-length.ensures) (counted_last _ _ _ _ c.loop-second.invariant (omega (arith, c.count-second-end.ensures)))
