-- What is said of the bytes is one, and true.
use Rattle.std.proofs.Common.{◌≡◌, ℕ, ◌≤◌, ◌↔◌, List, [], ◌∷◌, map, refl, sym, ap, ap₂, ◌∙◌, subst, inl, inr, arith}
use Rattle.std.specs.Prelude.{◌==◌, if◌then◌else◌}
use Rattle.std.proofs.lemmas.Bool.{cases_lt}
use Rattle.policy.specs.declared.codes.Code.{Code}
use Rattle.policy.specs.declared.codes.Code.TheVariants.{FixedPriority, RateMonotonic, EarliestDeadline}
use Rattle.policy.specs.Codes.{number_of, coded}
use Rattle.policy.proofs.Lawful.{coded_lawful}
use Rattle.plan.specs.Contents.{Contents, Sound}
use Rattle.model.specs.declared.verdicts.Rows.TheVariants.{Working as WorkingRows, Marks as MarkRows}
use Rattle.model.specs.declared.verdicts.Verdict.{Verdict}
use Rattle.model.specs.declared.verdicts.Verdict.TheVariants.{Kept as IsKept, Missed as IsMissed, RowsShort}
use Rattle.model.specs.Verdicts.{Timely, VerdictIs}
use Rattle.model.proofs.Exists.{one_verdict}
use Rattle.model.proofs.Kept.{kept_is_never_late, missed_is_the_earliest}
use Rattle.planfile.specs.Reads.{IsFile}
use Rattle.planfile.specs.Theorems.{AreBytes}
use Rattle.planfile.proofs.Outcomes.{every_file_is_read_once}
use Rattle.planfile.proofs.FiledWritten.{files_are_written}
use Rattle.report.specs.declared.words.Word.TheVariants.{Refused}
use Rattle.report.specs.declared.words.Answer.{Answer}
use Rattle.report.specs.Texts.{word_number}
use Rattle.report.specs.Said.{rows, of_verdict, of_fault, IsFileOf, Finds, Faults, Answers}
use Rattle.report.specs.Theorems.{AnswerHolds, WordsAreTrue, AnswersCanBeTrusted}

-- ---- codes

-- the code of a number
abbrev code_of : ℕ → Code
code_of n = if n == 1 then FixedPriority else (if n == 2 then RateMonotonic else EarliestDeadline)

back : (c : Code) → code_of (number_of c) ≡ c
back FixedPriority = refl
back RateMonotonic = refl
back EarliestDeadline = refl

back_all : (codes : List Code) → map code_of (map number_of codes) ≡ codes
back_all [] = refl
back_all (c ∷ codes) = ap₂ (λ c codes. c ∷ codes) (back c) (back_all codes)

codes_tell : (codes others : List Code) → map number_of codes ≡ map number_of others → codes ≡ others
codes_tell codes others e = sym (back_all codes) ∙ ap (map code_of) e ∙ back_all others

-- ---- one answer

-- a verdict never says refused
not_refused : (v : Verdict) → (of_verdict v).word ≡ Refused → ⊥
not_refused (IsKept k c) e = absurd (omega (arith, ap word_number e))
not_refused (IsMissed t n) e = absurd (omega (arith, ap word_number e))
not_refused (RowsShort WorkingRows t) e = absurd (omega (arith, ap word_number e))
not_refused (RowsShort MarkRows t) e = absurd (omega (arith, ap word_number e))

module _ (bytes : List ℕ) (small : AreBytes bytes) where
  -- the verdict on the one plan whose file the bytes are
  verdict_on : (a : Answer) (k : Contents) (codes : List Code) → IsFileOf bytes k codes → (f : Finds bytes a) → VerdictIs k (coded codes) rows rows f.verdict
  verdict_on a k codes file f =
      let same = (every_file_is_read_once bytes).one_plan f.contents k (map number_of f.codes) (map number_of codes) f.file file in
      rw (same.0, codes_tell codes f.codes same.1) f.is

  no_fault : (a : Answer) (k : Contents) (codes : List ℕ) → IsFile bytes k codes → Faults bytes a → ⊥
  no_fault a k codes file f = (every_file_is_read_once bytes).not_both k codes f.fault file f.refused

  sound : (k : Contents) (codes : List ℕ) → IsFile bytes k codes → Sound k
  sound k codes file = ((files_are_written bytes small k codes).0 file).0

  one_answer : (a b : Answer) → Answers bytes a → Answers bytes b → b ≡ a
  one_answer a b (inl f) (inl g) =
      let v = one_verdict f.contents (coded f.codes) (sound f.contents (map number_of f.codes) f.file) rows rows in
      g.answer ∙ ap of_verdict (v.2 g.verdict (verdict_on b f.contents f.codes f.file g) ∙ sym (v.2 f.verdict f.is)) ∙ sym f.answer
  one_answer a b (inl f) (inr g) = absurd (no_fault b f.contents (map number_of f.codes) f.file g)
  one_answer a b (inr f) (inl g) = absurd (no_fault a g.contents (map number_of g.codes) g.file f)
  one_answer a b (inr f) (inr g) = g.answer ∙ ap of_fault ((every_file_is_read_once bytes).one_fault f.fault g.fault f.refused g.refused) ∙ sym f.answer

  refused_is_no_file : (a : Answer) → Answers bytes a → (a.word ≡ Refused) ↔ ((k : Contents) (codes : List ℕ) → ¬ IsFile bytes k codes)
  refused_is_no_file a (inl f) =
      ((λ e. absurd (not_refused f.verdict (ap (λ x. x.word) (sym f.answer) ∙ e))), λ none. absurd (none f.contents (map number_of f.codes) f.file))
  refused_is_no_file a (inr f) = ((λ e k codes file. no_fault a k codes file f), λ none. ap (λ x. x.word) f.answer)

-- a verdict holds, as an answer
answer_holds : (k : Contents) (codes : List Code) → Sound k → (v : Verdict) → VerdictIs k (coded codes) rows rows v
    → AnswerHolds k codes (of_verdict v)
answer_holds k codes can_be (IsKept n c) is = record {
  kept = λ e. kept_is_never_late k (coded codes) can_be (coded_lawful codes) rows rows n c is;
  missed = λ e. absurd (omega (arith, ap word_number e));
  working = λ e. absurd (omega (arith, ap word_number e));
  marks = λ e. absurd (omega (arith, ap word_number e));
}
answer_holds k codes can_be (IsMissed t n) is = record {
  kept = λ e. absurd (omega (arith, ap word_number e));
  missed = λ e. missed_is_the_earliest k (coded codes) rows rows t n is;
  working = λ e. absurd (omega (arith, ap word_number e));
  marks = λ e. absurd (omega (arith, ap word_number e));
}
answer_holds k codes can_be (RowsShort WorkingRows t) (at, passes, gives) = record {
  kept = λ e. absurd (omega (arith, ap word_number e));
  missed = λ e. absurd (omega (arith, ap word_number e));
  working = λ e. (rw gives.0 gives.1, λ s l. (passes s (rw (← gives.0) l)).timely);
  marks = λ e. absurd (omega (arith, ap word_number e));
}
answer_holds k codes can_be (RowsShort MarkRows t) (at, passes, gives) = record {
  kept = λ e. absurd (omega (arith, ap word_number e));
  missed = λ e. absurd (omega (arith, ap word_number e));
  working = λ e. absurd (omega (arith, ap word_number e));
  marks = λ e. ((gives.3.0, gives.0 ∙ gives.3.1, gives.3.3), λ s l. timely s l);
} where
  timely : (s : ℕ) → s ≤ t → Timely k (coded codes) s
  timely s l =
      elim (cases_lt s at) [
        | inl before ↦ (passes s before).timely
        | inr here ↦ (let same : at ≡ s = omega (arith, here, l, gives.0) in subst (λ e. Timely k (coded codes) e) same gives.2)
      ]

words_are_true : WordsAreTrue
words_are_true bytes small k codes file a (inl f) =
    let can_be : Sound k = sound bytes small k (map number_of codes) file in
    rw f.answer (answer_holds k codes can_be f.verdict (verdict_on bytes small a k codes file f))
words_are_true bytes small k codes file a (inr f) = absurd (no_fault bytes small a k (map number_of codes) file f)

pub answers_can_be_trusted : AnswersCanBeTrusted
answers_can_be_trusted = record {
  one_answer = λ bytes small a b. one_answer bytes small a b;
  words_are_true = words_are_true;
  refused_is_no_file = λ bytes small a. refused_is_no_file bytes small a;
}
