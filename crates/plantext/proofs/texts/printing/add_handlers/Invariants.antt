use Rattle.plan.specs.Contents.{contents, count}
use Rattle.plantext.specs.Texts.{line_if_known}
use Rattle.plantext.proofs.Adding.{Added}
use Rattle.plantext.proofs.texts.printing.add_handlers.Given as goal

abbrev pub invariant-loop-number : goal.invariant-loop-number
invariant-loop-number l = Added (line_if_known (contents l.plan)) (count (contents l.plan)) l.initial.text.bytes l.number l.text.bytes
