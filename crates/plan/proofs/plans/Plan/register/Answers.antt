use Rattle.std.proofs.Common.{◌+◌, sym, ap, ◌∙◌}
use Rattle.plan.proofs.Facts.{rows_length}
use Rattle.plan.proofs.Histories.{accepted_count}
use Rattle.plan.proofs.Kept.{register_facts}
use Rattle.plan.proofs.plans.Plan.register.Goals as goal

pub invariant_of-self : goal.invariant_of-self
invariant_of-self c =
    let t = c.in_ok-round.ensures in
    record { holds = register_facts c.args.self.now c.args.handler t.0 c.in_ok-round.round c.max.result t.1 c.max.ensures }

pub returns-clause-nth : goal.returns-clause-nth
returns-clause-nth c = λ calls before. ap (λ n. n + 1) (sym (rows_length c.args.self.now) ∙ sym (accepted_count calls _ before))
