use Rattle.std.proofs.Common.{rules, tests}
use Rattle.std.proofs.lemmas.Iterator.{cases_from_any, YieldsList-from_slice}
use Rattle.checker.proofs.Watching.{IsWorking, working_told}
use Rattle.checker.proofs.fronts.lateness.working_in_one.Goals as goal

pub returns : goal.returns
returns c =
    let Yes = IsWorking c.args.number in
    working_told c.args.rows.now c.args.number c.any.result
    (cases_from_any _ _ _ Yes (λ x. ¬ Yes x) c.any.ensures.ran (YieldsList-from_slice c.args.rows.now c.iter.ensures.rest) (λ x q k. search (rules, tests)) (λ x q k. (search rules, search (rules, tests))))
