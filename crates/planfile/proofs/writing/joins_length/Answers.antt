use Rattle.std.proofs.Common.{arith}
use Rattle.plan.specs.Contents.{contents}
use Rattle.planfile.proofs.Lengths.{joins_length}
use Rattle.planfile.proofs.WritingSteps.{counted_within, counted_next, counted_last}
use Rattle.planfile.proofs.writing.joins_length.Goals as goal

pub overflow_add-length : goal.overflow_add-length
overflow_add-length c =
    omega (
      arith,
      c.joins_length_from-length.ensures,
      counted_within _ _ _ _ c.loop-first.invariant (omega (arith, c.count-first-end.ensures)),
      joins_length (contents c.args.plan.now) (omega (arith, c.count-first-end.ensures, c.count-first-end.type_inv)),
    )

pub loop-first-preserved : goal.loop-first-preserved
loop-first-preserved c = rw (c.joins_length_from-length.ensures) (counted_next _ _ _ _ c.loop-first.invariant (omega (arith, c.count-first-end.ensures)))

pub returns-2 : goal.returns-2
returns-2 c = rw (c.joins_length_from-length.ensures) (counted_last _ _ _ _ c.loop-first.invariant (omega (arith, c.count-first-end.ensures)))
