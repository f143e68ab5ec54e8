use Rattle.std.proofs.Common.{◌-◌, ◌≤◌, length, take}
use Rattle.std.specs.Io.KnownBytes.{Consumes}
use Rattle.report.proofs.lines.fill.Given as goal

-- what came so far stands at the front of the buffer
abbrev pub invariant-reads : goal.invariant-reads
invariant-reads g l = record {
  fits : l.filled ≤ length l.buffer;
  came : Consumes (g.R.Read.remaining l.initial.input) (g.R.Read.remaining l.input) (take l.filled l.buffer);
}

abbrev pub decreases-reads : goal.decreases-reads
decreases-reads g l = length l.initial.buffer - l.filled
