use Rattle.report.proofs.Reading.{keeps_on}
use Rattle.report.proofs.lines.read_some.Goals as goal

pub returns-in_default-clause-bytes : goal.returns-in_default-clause-bytes
returns-in_default-clause-bytes g c = keeps_on _ _ _ c.tries.invariant c.in-Err.ensures.bytes
