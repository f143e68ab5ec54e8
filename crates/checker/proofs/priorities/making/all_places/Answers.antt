use Rattle.std.proofs.Common.{◌≡◌, arith}
use Rattle.plan.specs.Contents.{contents, count}
use Rattle.checker.proofs.Listing.{each_once}
use Rattle.checker.proofs.priorities.making.all_places.Goals as goal

pub returns : goal.returns
returns c =
    let end : c.loop-place.place ≡ count (contents c.args.plan.now) = omega arith in
    each_once (contents c.args.plan.now) c.loop-place.places.items (rw end at c.loop-place.invariant)
