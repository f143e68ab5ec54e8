use Rattle.std.proofs.Common.{◌≡◌, ℕ, ◌<◌, get_or, map, sym, ◌∙◌, rules, arith}
use Rattle.std.proofs.lemmas.List.{ext_get_or, get_or-map, length-map}
use Rattle.policy.specs.declared.codes.Code.TheVariants.{FixedPriority}
use Rattle.policy.specs.Codes.{number_of}
use Rattle.plantext.proofs.texts.numbers.Goals as goal

pub returns : goal.returns
returns c =
    let all = c.map.ensures.items in
    let each : (i : ℕ) → i < 8 → get_or c.map.result i 0 ≡ number_of (get_or c.args.codes.now i FixedPriority) =
    λ i l. let called = all.at i FixedPriority 0 l in search rules in
    let long = length-map c.args.codes.now number_of in
    ext_get_or 0 c.map.result (map number_of c.args.codes.now) (omega (arith, long, c.told-codes, all.long))
    (λ i l. each i (omega (arith, l, all.long)) ∙ sym (get_or-map number_of c.args.codes.now i FixedPriority 0 (omega (arith, l, all.long, c.told-codes))))
