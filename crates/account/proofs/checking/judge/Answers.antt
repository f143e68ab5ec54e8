use Rattle.model.proofs.Findings.{one_choice}
use Rattle.account.proofs.Judging.{finds_known}
use Rattle.account.proofs.checking.judge.Goals as goal

pub returns : goal.returns
returns c = λ known same sized.
    finds_known c.args.sample.now known _ _ sized _ _ same
    (one_choice _ _ c.code_bank-bank.ensures) c.observe-result.result.result c.observe-result.ensures.checks
