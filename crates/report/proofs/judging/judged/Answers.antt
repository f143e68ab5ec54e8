use Rattle.std.proofs.Common.{refl}
use Rattle.report.proofs.Judged.{verdict_is}
use Rattle.report.proofs.judging.judged.Goals as goal

pub returns : goal.returns
returns c = verdict_is _ _ _ _ _ c.check.result c.unwrap.result c.check.ensures.checks refl refl c.code_bank.ensures c.unwrap.ensures
