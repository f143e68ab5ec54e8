use Rattle.std.proofs.Common.{rules}
use Rattle.plan.proofs.Kept.{join_facts, join_contents}
use Rattle.plan.proofs.plans.Plan.join.Goals as goal

pub invariant_of-self : goal.invariant_of-self
invariant_of-self c = record { holds = join_facts c.args.self.now c.args.a c.args.b c.in_ok-test_join.ensures }

pub returns-clause-joins : goal.returns-clause-joins
returns-clause-joins c = record { answers = search rules; leaves = join_contents c.args.self.now c.args.a c.args.b c.in_ok-test_join.ensures }
