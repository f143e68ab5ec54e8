use Rattle.std.proofs.Common.{rules}
use Rattle.policy.specs.Distances.{next_distance}
use Rattle.policy.proofs.criteria.EarliestDeadlineCriterion.compare.Goals as goal

pub returns-clause-nearest : goal.returns-clause-nearest
returns-clause-nearest c = λ d e x y.
    let a = c.args.a in
    let b = c.args.b in
    let m = next_distance a.period a.offset c.args.t d a.comes x in
    let n = next_distance b.period b.offset c.args.t e b.comes y in
    rw (← m, ← n) (search rules)
