use Rattle.std.proofs.Common.{rules, sym, subst, arith}
use Rattle.std.proofs.lemmas.List.{length-take}
use Rattle.checker.proofs.MoreRows.{Final}
use Rattle.checker.proofs.MoreTables.{as_many, copied, from_some}
use Rattle.checker.proofs.sizes.attempt.Goals as goal

pub returns-in-Missed-clause-answers : goal.returns-in-Missed-clause-answers
returns-in-Missed-clause-answers g c =
    let r = c.requires in
    from_some _ _ _ r.same r.few r.few_marks _ _ _ _
    (omega arith) (simp length-take (omega arith)) c.judge_within-verdict.ensures
    (subst Final (sym c.in-Missed.is) tt)
    (record { front = search rules; back = search rules; marks = search rules })
    (rw c.in-Missed.is tt)

pub returns-in-Kept-clause-answers : goal.returns-in-Kept-clause-answers
returns-in-Kept-clause-answers g c =
    let r = c.requires in
    let h = c.in-Kept.ensures in
    let copy = c.copy_from_slice.ensures in
    from_some _ _ _ r.same r.few r.few_marks _ _ _ _
    (omega arith) (simp length-take (omega arith)) h tt
    (record { front = search rules; back = search rules; marks = as_many _ _ _ copy.len })
    (copied _ _ _ _ _ _ _ _ h.leaves copy.after
    (omega (arith, h.leaves.fits, simp length-take at h.sizes.marks)))
