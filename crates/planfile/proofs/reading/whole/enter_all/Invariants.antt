use Rattle.std.proofs.Common.{◌≡◌, ◌-◌, length}
use Rattle.plan.specs.Contents.{contents}
use Rattle.planfile.specs.Reads.{Reached}
use Rattle.planfile.specs.Readers.{standing}
use Rattle.planfile.proofs.reading.whole.enter_all.Given as goal

-- the plan and the codes are what the records so far make, and the next one begins at the place
abbrev pub invariant-loop-next : goal.invariant-loop-next
invariant-loop-next l =
    (l.reader.bytes.now ≡ l.bytes) × (l.place ≡ l.reader.place) × Reached l.bytes (standing l.reader) (contents l.plan) l.codes.items

-- each record takes bytes
abbrev pub decreases-loop-next : goal.decreases-loop-next
decreases-loop-next l = length l.bytes - l.reader.place
