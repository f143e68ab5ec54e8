use Rattle.std.proofs.Common.{◌∙◌}
use Rattle.checker.proofs.MoreTables.{again}
use Rattle.checker.proofs.sizes.judge_sized.Goals as goal

pub returns-then-rows-le-MANY : goal.returns-then-rows-le-MANY
returns-then-rows-le-MANY g c =
    let r = c.requires in
    let x = c.in_default.ensures in
    again _ _ _ r.same r.few r.few_marks _ _ _ x.front x.back x.answers
    c.judge_within-then-rows-le-MANY.ensures

pub returns-in-Some-attempt : goal.returns-in-Some-attempt
returns-in-Some-attempt g c =
    let r = c.requires in
    let x = c.in_default.ensures in
    again _ _ _ r.same r.few r.few_marks _ _ _ x.front x.back x.answers
    c.in-Some-attempt.ensures.answers

pub returns : goal.returns
returns g c =
    let r = c.requires in
    let x = c.in_default.ensures in
    let y = c.in_default-attempt.ensures in
    again _ _ _ r.same r.few r.few_marks _ _ _
    (y.front ∙ x.front) (y.back ∙ x.back) (y.answers ∙ x.answers) c.judge_within-2.ensures
