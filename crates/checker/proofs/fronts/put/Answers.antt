use Rattle.checker.proofs.Spreading.{put_over}
use Rattle.checker.proofs.fronts.put.Goals as goal

pub returns-in-Full-clause-joins : goal.returns-in-Full-clause-joins
returns-in-Full-clause-joins g c = put_over _ _ _ _ (g.met.W.Table.once c.args.back.now) (rw c.in-Full.is at c.insert.ensures.inserts)
