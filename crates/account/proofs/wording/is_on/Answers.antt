use Rattle.std.proofs.Common.{rules, tests, ◌≡◌}
use Rattle.plan.specs.Contents.{contents}
use Rattle.checker.proofs.Reading.{of_handler}
use Rattle.account.proofs.wording.is_on.Goals as goal

pub returns : goal.returns
returns c =
    of_handler (contents c.args.plan.now) c.args.number (λ h. h.core ≡ c.args.core.number)
    c.is_some_and.result c.handler.result c.handler.ensures.test c.handler.ensures.value
    c.is_some_and.ensures (λ h q. search (rules, tests))
