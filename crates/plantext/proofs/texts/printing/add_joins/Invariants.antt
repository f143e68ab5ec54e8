use Rattle.plan.specs.Contents.{contents, count}
use Rattle.plantext.specs.Texts.{lines_from}
use Rattle.plantext.proofs.Adding.{Added}
use Rattle.plantext.proofs.texts.printing.add_joins.Given as goal

abbrev pub invariant-loop-first : goal.invariant-loop-first
invariant-loop-first l = Added (lines_from (contents l.plan)) (count (contents l.plan)) l.initial.text.bytes l.first l.text.bytes
