-- What is said of bytes that may be the file of a plan.
use Rattle.std.specs.Prelude.{◌≡◌, ℕ, ◌⊎◌, List, map}
use Rattle.policy.specs.declared.codes.Code.{Code}
use Rattle.policy.specs.Codes.{number_of, coded}
use Rattle.plan.specs.Contents.{Contents}
use Rattle.model.specs.declared.verdicts.Rows.TheVariants.{Working as WorkingRows, Marks as MarkRows}
use Rattle.model.specs.declared.verdicts.Verdict.{Verdict}
use Rattle.model.specs.declared.verdicts.Verdict.TheVariants.{Kept as IsKept, Missed as IsMissed, RowsShort}
use Rattle.model.specs.Verdicts.{VerdictIs}
use Rattle.planfile.specs.declared.faults.Fault.{Fault}
use Rattle.planfile.specs.Numbers.{cause_number}
use Rattle.planfile.specs.Reads.{IsFile, IsRefused}
use Rattle.report.specs.declared.words.Word.TheVariants.{Kept, Missed, Working, Marks, Refused}
use Rattle.report.specs.declared.words.Answer.{Answer}

-- the rows of each table of the check
abbrev pub rows : ℕ
rows = 128

-- a verdict as a word and two numbers
abbrev pub of_verdict : Verdict → Answer
of_verdict (IsKept k c) = record { word = Kept; first = k; second = c }
of_verdict (IsMissed t n) = record { word = Missed; first = t; second = n }
of_verdict (RowsShort WorkingRows t) = record { word = Working; first = t; second = rows }
of_verdict (RowsShort MarkRows t) = record { word = Marks; first = t; second = rows }

-- a fault, by the number of the test that failed and the place of the record
abbrev pub of_fault : Fault → Answer
of_fault f = record { word = Refused; first = cause_number f.cause; second = f.place }

-- the bytes are the file of a plan that holds k, with these codes of the cores 1 to 8
abbrev pub IsFileOf : List ℕ → Contents → List Code → Type 0
IsFileOf bytes k codes = IsFile bytes k (map number_of codes)

-- the bytes are the file of a plan, and the answer is the verdict on it, where each core chooses by its code
pub record Finds (bytes : List ℕ) (a : Answer) : Type 0 where
  pub contents : Contents
  pub codes : List Code
  pub file : IsFileOf bytes contents codes
  pub verdict : Verdict
  pub is : VerdictIs contents (coded codes) rows rows verdict
  pub answer : a ≡ of_verdict verdict

-- the bytes are refused, and the answer is the fault
pub record Faults (bytes : List ℕ) (a : Answer) : Type 0 where
  pub fault : Fault
  pub refused : IsRefused bytes fault
  pub answer : a ≡ of_fault fault

-- this is said of the bytes
abbrev pub Answers : List ℕ → Answer → Type 0
Answers bytes a = Finds bytes a ⊎ Faults bytes a
