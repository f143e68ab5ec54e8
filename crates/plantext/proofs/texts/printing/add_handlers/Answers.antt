use Rattle.std.proofs.Common.{arith, ◌++◌, ap, ◌∙◌}
use Rattle.plan.specs.Contents.{contents}
use Rattle.planfile.proofs.WritingRecords.{by_number}
use Rattle.plantext.specs.Texts.{handler_line}
use Rattle.plantext.proofs.Adding.{room_here, added_next, added_last}
use Rattle.plantext.proofs.texts.printing.add_handlers.Goals as goal

pub add_if_known-requires : goal.add_if_known-requires
add_if_known-requires c = room_here _ _ _ _ _ (by_number handler_line (contents c.args.plan.now)) c.requires _ _ c.loop-number.invariant (omega (arith, c.count-number-end.ensures))

pub loop-number-preserved : goal.loop-number-preserved
loop-number-preserved c = added_next _ _ _ _ _ _ c.loop-number.invariant c.add_if_known.ensures (omega (arith, c.count-number-end.ensures))

pub returns-2 : goal.returns-2
returns-2 c =
    added_last _ _ _ _ _ _ c.loop-number.invariant c.add_if_known.ensures (omega (arith, c.count-number-end.ensures))
    ∙ ap (λ l. c.args.text.now.bytes ++ l) (by_number handler_line (contents c.args.plan.now))
