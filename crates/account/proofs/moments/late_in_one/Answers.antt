use Rattle.std.proofs.Common.{rules, tests}
use Rattle.std.proofs.lemmas.Iterator.{cases_from_any, YieldsList-from_slice}
use Rattle.plan.specs.Contents.{contents}
use Rattle.account.proofs.Lateness.{IsLate, late_told}
use Rattle.account.proofs.moments.late_in_one.Goals as goal

pub returns : goal.returns
returns c =
    let p = contents c.args.plan.now in
    let Yes = IsLate p c.args.time c.args.states.now c.args.number in
    late_told p c.args.time c.args.states.now c.args.number c.any.result
    (cases_from_any _ _ _ Yes (λ x. ¬ Yes x) c.any.ensures.ran
    (YieldsList-from_slice c.args.states.now c.iter.ensures.rest)
    (λ x q k. search (rules, tests)) (λ x q k. (search rules, search (rules, tests))))
