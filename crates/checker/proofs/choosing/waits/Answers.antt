use Rattle.std.proofs.Common.{rules, tests, ℕ, ◌+◌, true, false, sym, arith}
use Rattle.std.proofs.lemmas.Bool.{true≢false}
use Rattle.std.proofs.lemmas.Iterator.{cases_from_any, YieldsList-from_range}
use Rattle.plan.specs.Contents.{contents, count}
use Rattle.plan.proofs.Facts.{sound}
use Rattle.model.specs.Memory.{times}
use Rattle.checker.specs.Choosing.{HoldsUp}
use Rattle.checker.proofs.Reading.{any_number, holds_up, joins_known}
use Rattle.checker.proofs.choosing.waits.Goals as goal

pub returns : goal.returns
returns c =
    let p = contents c.args.plan.now in
    let ok = sound c.args.plan.now in
    let s = c.args.state.now in
    let Yes : ℕ → Type 0 = λ a. HoldsUp p (times p s) a c.args.b in
    any_number (count p) Yes (λ a h. (joins_known p ok s a c.args.b h.0).0) c.any.result
    (cases_from_any _ _ _ (λ i. Yes (i + 1)) (λ i. ¬ Yes (i + 1)) c.any.ensures.ran (YieldsList-from_range 0 (count p) (count p) (cc) (omega arith))
    (λ x q k. (holds_up p ok s x c.args.b true (search (rules, tests))).0 (search rules))
    (λ x q k. (search rules, λ h. true≢false (sym ((holds_up p ok s x c.args.b false (search (rules, tests))).1 h)))))
