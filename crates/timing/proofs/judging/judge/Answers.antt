use Rattle.timing.proofs.Alike.{checks_alike}
use Rattle.timing.proofs.judging.judge.Goals as goal

pub returns : goal.returns
returns c = checks_alike _ _ _ _ _ _ c.code_bank.ensures c.check.ensures.checks
