use Rattle.report.proofs.Decoding.{Decoded}
use Rattle.report.proofs.judging.all_decoded.Given as goal

abbrev pub invariant-loop-place : goal.invariant-loop-place
invariant-loop-place l = Decoded l.numbers l.codes l.place
