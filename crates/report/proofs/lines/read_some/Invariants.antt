use Rattle.std.specs.Io.KnownBytes.{Keeps}
use Rattle.report.proofs.lines.read_some.Given as goal

-- the reads so far gave nothing
abbrev pub invariant-tries : goal.invariant-tries
invariant-tries g l = Keeps (g.R.Read.remaining l.initial.input) (g.R.Read.remaining l.input)
