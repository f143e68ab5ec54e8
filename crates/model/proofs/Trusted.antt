-- All that is promised of verdicts, and of checks in any mixture of calls.
use Rattle.model.specs.Theorems.{VerdictsAreTrue}
use Rattle.model.proofs.Exists.{one_verdict}
use Rattle.model.proofs.Kept.{kept_is_never_late, kept_counts_all_marks, missed_is_the_earliest}
use Rattle.model.specs.Laws.{ChecksCanBeTrusted}
use Rattle.model.proofs.Findings.{verdicts_hold}
use Rattle.model.proofs.Calls.{calls_fit, registers_count}
use Rattle.model.proofs.Questions.{questions_decide}
use Rattle.model.proofs.Answering.{every_call_answers}
use Rattle.model.proofs.Alikeness.{alike_checks_answer_alike}

pub verdicts_are_true : VerdictsAreTrue
verdicts_are_true = record {
  one_verdict = one_verdict;
  kept_is_never_late = kept_is_never_late;
  kept_counts_all_marks = kept_counts_all_marks;
  missed_is_the_earliest = missed_is_the_earliest;
}

pub checks_can_be_trusted : ChecksCanBeTrusted
checks_can_be_trusted = record {
  verdicts_hold = verdicts_hold;
  calls_fit = calls_fit;
  questions_decide = questions_decide;
  every_call_answers = every_call_answers;
  registers_count = registers_count;
  alike_checks_answer_alike = alike_checks_answer_alike;
}
