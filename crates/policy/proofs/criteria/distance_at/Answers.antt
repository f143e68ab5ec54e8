use Rattle.std.proofs.Common.{arith}
use Rattle.policy.specs.Distances.{distance_next}
use Rattle.policy.proofs.criteria.distance_at.Goals as goal

pub returns-clause-next : goal.returns-clause-next
returns-clause-next c = grind (arith, distance_next c.args.x.period c.args.x.offset c.args.t c.args.x.comes)
