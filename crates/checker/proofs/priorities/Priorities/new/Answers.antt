use Rattle.std.proofs.Common.{◌≡◌, ◌<◌, subst, rules, arith}
use Rattle.plan.specs.Contents.{contents, count, at}
use Rattle.plan.proofs.Facts.{sound}
use Rattle.checker.specs.Orders.{SeatAt, JoinedBefore}
use Rattle.checker.proofs.Listing.{made_each}
use Rattle.checker.proofs.priorities.Priorities.new.Goals as goal

pub invariant_of-result-clause-seated : goal.invariant_of-result-clause-seated
invariant_of-result-clause-seated c = λ i d s l e.
    subst (SeatAt (contents c.args.plan.now) i) e
    (made_each (λ f. f.0.now ≡ c.args.plan.now) (SeatAt (contents c.args.plan.now)) (λ f k y q kept call. search rules) _ c.from_fn-seats.result 64 (search rules) c.from_fn-seats.ensures.items i d l)

pub invariant_of-result-clause-vacant : goal.invariant_of-result-clause-vacant
invariant_of-result-clause-vacant c = λ i d l e.
    subst (SeatAt (contents c.args.plan.now) i) e
    (made_each (λ f. f.0.now ≡ c.args.plan.now) (SeatAt (contents c.args.plan.now)) (λ f k y q kept call. search rules) _ c.from_fn-seats.result 64 (search rules) c.from_fn-seats.ensures.items i d l)

pub invariant_of-result-clause-on_cores : goal.invariant_of-result-clause-on_cores
invariant_of-result-clause-on_cores c = λ i l.
    let few = (sound c.args.plan.now).few in
    made_each (λ f. f.0.now ≡ c.args.plan.now) (λ i y. i < count (contents c.args.plan.now) → y ≡ (at (contents c.args.plan.now) i).core) (λ f k y q kept call. search rules) _ c.from_fn-cores.result 64 (search rules) c.from_fn-cores.ensures.items i 0 (omega (arith, few, l)) l

pub invariant_of-result-clause-joined : goal.invariant_of-result-clause-joined
invariant_of-result-clause-joined c = λ i l.
    made_each (λ f. f.0.now ≡ c.args.plan.now) (JoinedBefore (contents c.args.plan.now)) (λ f k y q kept call. search rules) _ c.from_fn-before.result 64 (search rules) c.from_fn-before.ensures.items i 0 l
