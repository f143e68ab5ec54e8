use Rattle.std.proofs.Common.{◌-◌, slice_index}
use Rattle.plantext.specs.Texts.{core_line}
use Rattle.plantext.proofs.Adding.{Added}
use Rattle.plantext.proofs.texts.printing.add_cores.Given as goal

abbrev pub invariant-loop-core : goal.invariant-loop-core
invariant-loop-core l = Added (λ c. core_line c (slice_index l.codes (c - 1))) 8 l.initial.text.bytes l.core l.text.bytes
