use Rattle.plan.proofs.Facts.{sound}
use Rattle.model.proofs.Same.{rows_told, verdict_told}
use Rattle.model.proofs.Trusted.{checks_can_be_trusted, verdicts_are_true}
use Rattle.model.proofs.Findings.{verdict_holds}
use Rattle.checker.proofs.check.Goals as goal

pub returns-then-front-back-clause-trusted : goal.returns-then-front-back-clause-trusted
returns-then-front-back-clause-trusted g c = checks_can_be_trusted

pub returns-then-front-back-clause-verdicts : goal.returns-then-front-back-clause-verdicts
returns-then-front-back-clause-verdicts g c = verdicts_are_true

pub returns-then-front-back-clause-equality : goal.returns-then-front-back-clause-equality
returns-then-front-back-clause-equality g c = (verdict_told, rows_told)

pub returns-clause-equality : goal.returns-clause-equality
returns-clause-equality g c = (verdict_told, rows_told)

pub returns-clause-verdicts : goal.returns-clause-verdicts
returns-clause-verdicts g c = verdicts_are_true

pub returns-clause-trusted : goal.returns-clause-trusted
returns-clause-trusted g c = checks_can_be_trusted

pub returns-clause-holds : goal.returns-clause-holds
returns-clause-holds g c =
    verdict_holds _ (sound c.args.plan.now) _ (g.met.D.Discipline.lawful c.args.d.now) _ _
    c.judge_sized-verdict.result c.judge_sized-verdict.ensures
