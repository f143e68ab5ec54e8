use Rattle.std.proofs.Common.{rules}
use Rattle.plan.proofs.Kept.{seat_facts, seat_contents}
use Rattle.plan.proofs.plans.Plan.reseat.Goals as goal

pub invariant_of-self : goal.invariant_of-self
invariant_of-self c = record { holds = seat_facts c.args.self.now c.args.number c.args.core c.in_ok-test_seat.ensures }

pub returns-clause-reseats : goal.returns-clause-reseats
returns-clause-reseats c = record { answers = search rules; leaves = seat_contents c.args.self.now c.args.number c.args.core c.in_ok-test_seat.ensures }
