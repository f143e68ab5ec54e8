use Rattle.std.proofs.Common.{rules, ◌≡◌, ◌≤◌, ◌∙◌, length, sym, ap, arith}
use Rattle.model.specs.Checks.{most_rows}
use Rattle.checker.proofs.Tables.{judged, marks_after}
use Rattle.checker.proofs.sizes.judge_watched.Goals as goal

pub returns-clause-checks : goal.returns-clause-checks
returns-clause-checks g c =
    let r = c.requires in
    let front = c.indexed-front in
    let back = c.indexed-back in
    let marks = c.indexed-marks in
    let room : length front.result.rows.now ≡ length back.result.rows.now =
    ap length front.ensures.whole ∙ r.same ∙ sym (ap length back.ensures.whole) in
    let lows : length marks.result.rows.now ≤ most_rows =
    omega (arith, r.few_marks, ap length marks.ensures.whole) in
    let verdict = rw (front.ensures.whole, marks.ensures.whole) at (c.judge.ensures.verdict room lows) in
    record {
      answers = judged _ _ _ _ r.same r.few r.few_marks verdict;
      sizes = record { front = search rules; back = search rules; marks = search rules };
      leaves = marks_after _ _ _ _ marks.result c.judge.new.marks marks.ensures.whole c.judge.result.verdict
          (c.judge.ensures.marks room lows) (c.judge.ensures.frame room lows)
          (λ kept.
          let f = c.judge.ensures.frame room lows kept in
          let lent = sym (f.2.lent ∙ f.1.lent ∙ marks.ensures.lent) in
          search rules);
    }

pub returns-clause-watched : goal.returns-clause-watched
returns-clause-watched g c =
    let r = c.requires in
    let front = c.indexed-front in
    let back = c.indexed-back in
    let marks = c.indexed-marks in
    let room : length front.result.rows.now ≡ length back.result.rows.now =
    ap length front.ensures.whole ∙ r.same ∙ sym (ap length back.ensures.whole) in
    let lows : length marks.result.rows.now ≤ most_rows =
    omega (arith, r.few_marks, ap length marks.ensures.whole) in
    c.judge.ensures.watched room lows
