use Rattle.checker.proofs.Walking.{round_on}
use Rattle.checker.proofs.rounds.Rounds.round.Goals as goal

pub returns : goal.returns
returns g c = round_on g.D.Discipline.first g.W.Table.members g.W.Table.room g.O.Observer.seen c.hyperperiod-units.result c.args.self.now c.walk.new.self c.walk.result c.hyperperiod-units.ensures c.walk.ensures.same c.walk.ensures.walks
