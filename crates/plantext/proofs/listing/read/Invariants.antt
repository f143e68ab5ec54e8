use Rattle.plantext.specs.Taking.{Lists}
use Rattle.plantext.proofs.Cutting.{lines_of}
use Rattle.plantext.proofs.listing.read.Given as goal

-- the listing is what the lines so far make of a new one
abbrev pub invariant-loop-at : goal.invariant-loop-at
invariant-loop-at l = Lists (lines_of l.yielded) l.list
