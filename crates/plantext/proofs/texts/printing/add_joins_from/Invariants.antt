use Rattle.plan.specs.Contents.{contents, count}
use Rattle.plantext.specs.Texts.{line_if_joined}
use Rattle.plantext.proofs.Adding.{Added}
use Rattle.plantext.proofs.texts.printing.add_joins_from.Given as goal

abbrev pub invariant-loop-second : goal.invariant-loop-second
invariant-loop-second l = Added (line_if_joined (contents l.plan) l.first) (count (contents l.plan)) l.initial.text.bytes l.second l.text.bytes
