use Rattle.std.proofs.Common.{rules}
use Rattle.samples.proofs.Mixing.{check_answered}
use Rattle.samples.proofs.mixture.checked.Goals as goal

pub returns : goal.returns
returns c =
    check_answered _ _ _ _ c.check.result _ _ _ c.code_bank.ensures c.check.ensures.checks
    (search rules) (search rules) (search rules)
