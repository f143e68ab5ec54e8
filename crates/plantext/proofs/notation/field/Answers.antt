use Rattle.std.proofs.Common.{◌≡◌, Ok, refl, rules, arith}
use Rattle.plantext.specs.declared.notation.Problem.TheVariants.{NoNumber}
use Rattle.plantext.proofs.Fields.{word, split_two, misread, handed}
use Rattle.plantext.proofs.notation.field.Goals as goal

pub returns-in_ok-number-in-len2-up : goal.returns-in_ok-number-in-len2-up
returns-in_ok-number-in-len2-up c =
    let ws = c.args.words.now in
    let m = c.map_err.ensures.cases in
    let was : c.parse.result ≡ Ok c.in_ok-number-in-len2-up.number = grind arith in
    let read = rw was at c.parse.ensures.value.0 in
    record { word = word ws 1; starts = split_two ws _ c.in-len2-up.len_at_least (search rules); writes = record { digits = read.0.0; fits = read.0.1; is = read.1 } }

pub returns-in_err-number-in-len2-up : goal.returns-in_err-number-in-len2-up
returns-in_err-number-in-len2-up c =
    let ws = c.args.words.now in
    let is : c.in_err-number-in-len2-up.field-0.0 ≡ NoNumber c.args.key = search rules in
    let none = misread (word ws 1) c.parse.result c.in_err-number-in-len2-up.ensures.variant c.parse.ensures.value.0 in
    handed _ _ _ c.in_err-number-in-len2-up.field-0.0 c.from_residual.ensures.1
    (rw is (refl, (word ws 1, _, split_two ws _ c.in-len2-up.len_at_least (search rules), none)))
