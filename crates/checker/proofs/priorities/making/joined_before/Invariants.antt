use Rattle.std.proofs.Common.{◌≡◌, true}
use Rattle.plan.specs.Contents.{contents}
use Rattle.checker.proofs.Words.{BitsTo}
use Rattle.checker.proofs.priorities.making.joined_before.Given as goal

abbrev pub invariant-loop-other : goal.invariant-loop-other
invariant-loop-other l = BitsTo (λ a. (contents l.plan).joined a l.place ≡ true) l.other l.places
