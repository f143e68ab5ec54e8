use Rattle.checker.proofs.Turns.{turn_since}
use Rattle.checker.proofs.moments.finding.turn_at.Goals as goal

pub returns : goal.returns
returns c = turn_since c.args.handler c.args.t c.if-t-offset.false c.requires
