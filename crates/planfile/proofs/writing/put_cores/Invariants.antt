use Rattle.planfile.proofs.WritingRecords.{core_bytes}
use Rattle.planfile.proofs.WritingSteps.{Below}
use Rattle.planfile.proofs.writing.put_cores.Given as goal

abbrev pub invariant-loop-core : goal.invariant-loop-core
invariant-loop-core l = Below (core_bytes l.codes) 8 l.initial.buffer l.place l.core l.next l.buffer
