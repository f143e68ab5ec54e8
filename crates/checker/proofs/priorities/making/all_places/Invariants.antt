use Rattle.checker.proofs.Listing.{Counts}
use Rattle.checker.proofs.priorities.making.all_places.Given as goal

abbrev pub invariant-loop-place : goal.invariant-loop-place
invariant-loop-place l = Counts l.places.items l.place
