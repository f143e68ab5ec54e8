use Rattle.report.proofs.Trusted.{answers_can_be_trusted}
use Rattle.report.proofs.judging.answer.Goals as goal

pub returns-in-Ok-clause-trusted : goal.returns-in-Ok-clause-trusted
returns-in-Ok-clause-trusted c = answers_can_be_trusted

pub returns-in-Err-clause-trusted : goal.returns-in-Err-clause-trusted
returns-in-Err-clause-trusted c = answers_can_be_trusted
