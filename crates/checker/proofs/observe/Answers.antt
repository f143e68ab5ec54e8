use Rattle.plan.proofs.Facts.{sound}
use Rattle.model.proofs.Findings.{verdict_holds}
use Rattle.checker.proofs.observe.Goals as goal

pub returns-clause-holds : goal.returns-clause-holds
returns-clause-holds g c =
    verdict_holds _ (sound c.args.plan.now) _ (g.met.D.Discipline.lawful c.args.d.now) _ _
    c.judge_observed-judged.result.verdict c.judge_observed-judged.ensures.checks
