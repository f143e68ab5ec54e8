-- The verdict of a check holds of all runs of the plan.
use Rattle.std.proofs.Common.{◌≡◌, ℕ, ◌-◌, ◌<◌, length, take, Ok, refl, sym, ap, subst, arith}
use Rattle.std.specs.Result.{result_unwrap_or}
use mathlib.Core.Path.{fun_ext}
use Rattle.policy.specs.declared.cores.Core.{Core}
use Rattle.policy.specs.declared.candidates.Candidate.{Candidate}
use Rattle.policy.specs.Laws.{Choice, IsLawfulChoice}
use Rattle.plan.specs.Contents.{Contents, Sound}
use Rattle.model.specs.declared.verdicts.Verdict.{Verdict}
use Rattle.model.specs.declared.verdicts.Verdict.TheVariants.{Kept}
use Rattle.model.specs.Runs.{mark}
use Rattle.model.specs.Verdicts.{Closes, VerdictIs}
use Rattle.model.proofs.Kept.{kept_is_never_late, kept_counts_all_marks, missed_is_the_earliest}
use Rattle.model.proofs.Marks.{mark_before, round_some}
use Rattle.model.specs.Checks.{Tables, Checks, LeavesMarks}
use Rattle.model.specs.Histories.{checks}
use Rattle.model.specs.Laws.{VerdictsHold}
use Rattle.model.specs.Outcomes.{AreTheMarks, KeptHolds, VerdictHolds}
use Rattle.plan.proofs.Tested.{passed}
use Rattle.model.proofs.Calls.{among_made}
use Rattle.model.proofs.Short.{exact}
use Rattle.model.proofs.Sounds.{after_sound}

-- choices that answer every question alike are one
pub one_choice : (D E : Choice) → ((k : Core) (a b : Candidate) (t : ℕ) → D k a b t ≡ E k a b t) → D ≡ E
one_choice D E same = fun_ext (λ k. fun_ext (λ a. fun_ext (λ b. fun_ext (λ t. same k a b t))))

-- a check that answers a verdict answers the model's
pub judged : (k : Contents) (D : Choice) (was is : Tables) (v : Verdict) → Checks k D was (Ok v) is → VerdictIs k D (length was.front) (length was.marks) v
judged k D was is v c =
    let r = (passed c.answers).1 in
    subst (VerdictIs k D (length was.front) (length was.marks)) (sym (ap (λ x. result_unwrap_or x v) r.2)) r.1

-- what the verdict of a check says holds, if the plan can be and the discipline is lawful
module _ (k : Contents) (ok : Sound k) (D : Choice) (law : IsLawfulChoice D) (was is : Tables) where
  abbrev Is : Verdict → Type 0
  Is = VerdictIs k D (length was.front) (length was.marks)

  marks_left : (n c : ℕ) → Is (Kept n c) → LeavesMarks k D (n - 1) c was.marks is.marks
      → AreTheMarks k D (take c is.marks)
  marks_left n c v left =
      let all = (kept_counts_all_marks k D ok law (length was.front) (length was.marks) n c v).1 in
      record {
        once = left.marks.once;
        each = λ j v s. left.marks.each v (all j v s);
        only = λ x h. (let m = left.marks.only x h in (m.1.0, m.0, m.1.2, m.2));
      }

  -- the first mark time that brings nothing new gives kept
  first_closes : (n c : ℕ) → Is (Kept n c) → (j : ℕ) → j < n → ¬ Closes k D j
  first_closes n c v j l =
      let sooner : mark k j < v.0 = omega (arith, v.2.0, mark_before k j n l, round_some k ok) in
      (v.1 (mark k j) sooner).opens j refl

  kept_holds : (n c : ℕ) → Checks k D was (Ok (Kept n c)) is → KeptHolds k D is.marks n c
  kept_holds n c checked =
      let v = judged k D was is (Kept n c) checked in
      let left : LeavesMarks k D (n - 1) c was.marks is.marks = checked.leaves in
      record {
        never_late = kept_is_never_late k D ok law (length was.front) (length was.marks) n c v;
        closes = v.2.3;
        first = first_closes n c v;
        fits = left.fits;
        marks = marks_left n c v left;
      }

  pub verdict_holds : (v : Verdict) → Checks k D was (Ok v) is → VerdictHolds k D was is v
  verdict_holds v checked =
      let found = judged k D was is v checked in
      record {
        kept = λ n c e. kept_holds n c (subst (λ w. Checks k D was (Ok w) is) e checked);
        missed = λ t n e.
            missed_is_the_earliest k D (length was.front) (length was.marks) t n (subst Is e found);
        short = exact k D ok was v found;
      }

pub verdicts_hold : VerdictsHold
verdicts_hold h k D was is v a =
    let made = (among_made h k (checks D was (Ok v) is) a).1 in
    verdict_holds k (after_sound a.before k a.held) D made.0 was is v made.1
