use Rattle.std.proofs.Common.{rules, tests, ℕ, ◌+◌, arith}
use Rattle.std.proofs.lemmas.Iterator.{cases_from_any, YieldsList-from_range}
use Rattle.plan.specs.Contents.{contents, count}
use Rattle.checker.proofs.Reading.{any_number}
use Rattle.account.specs.Tellings.{IsOn}
use Rattle.account.proofs.wording.in_use.Goals as goal

pub returns : goal.returns
returns c =
    let p = contents c.args.plan.now in
    let On : ℕ → Type 0 = IsOn p c.args.core in
    any_number (count p) On (λ n h. h.0) c.any.result
    (cases_from_any _ _ _ (λ i. On (i + 1)) (λ i. ¬ On (i + 1)) c.any.ensures.ran
    (YieldsList-from_range 0 (count p) (count p) (cc) (omega arith))
    (λ x q k. search (rules, tests)) (λ x q k. (search rules, search (rules, tests))))
