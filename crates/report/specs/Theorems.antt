-- What is proved of the answers.
use Rattle.std.specs.Prelude.{◌≡◌, ℕ, ◌^◌, ◌<◌, ◌≤◌, ◌↔◌, List}
use Rattle.policy.specs.declared.codes.Code.{Code}
use Rattle.policy.specs.Codes.{coded}
use Rattle.plan.specs.Contents.{Contents}
use Rattle.model.specs.Runs.{StateAt, NeverLate, EarliestMiss, mark, Marked}
use Rattle.model.specs.Verdicts.{Outnumber, Timely}
use Rattle.planfile.specs.Reads.{IsFile}
use Rattle.planfile.specs.Theorems.{AreBytes}
use Rattle.report.specs.declared.words.Word.TheVariants.{Kept, Missed, Working, Marks, Refused}
use Rattle.report.specs.declared.words.Answer.{Answer}
use Rattle.report.specs.Texts.{line_of}
use Rattle.report.specs.Said.{rows, IsFileOf, Answers}
use Rattle.report.specs.Records.{record_of}

-- one thing is said of any bytes
abbrev pub OneAnswer : Type 0
OneAnswer = (bytes : List ℕ) → AreBytes bytes → (a b : Answer) → Answers bytes a → Answers bytes b → b ≡ a

-- what the answer says holds of all runs of a plan that holds k, under these codes of its cores
pub record AnswerHolds (k : Contents) (codes : List Code) (a : Answer) : Type 0 where
  -- no run is ever late
  pub kept : a.word ≡ Kept → NeverLate k (coded codes)
  -- the earliest time at which any run is late, and the lowest number late then
  pub missed : a.word ≡ Missed → EarliestMiss k (coded codes) a.first a.second
  -- there are more states at this time than rows, and no run is late before it
  pub working : a.word ≡ Working → Outnumber (StateAt k (coded codes) a.first) rows × ((e : ℕ) → e < a.first → Timely k (coded codes) e)
  -- this is a mark time, the marks up to it are more than the rows, and no run is late up to it
  pub marks : a.word ≡ Marks → ((m : ℕ) × (a.first ≡ mark k m) × Outnumber (Marked k (coded codes) m) rows) × ((e : ℕ) → e ≤ a.first → Timely k (coded codes) e)

-- whatever is said of the file of a plan holds of that plan
abbrev pub WordsAreTrue : Type 0
WordsAreTrue =
    (bytes : List ℕ) → AreBytes bytes → (k : Contents) (codes : List Code) → IsFileOf bytes k codes
    → (a : Answer) → Answers bytes a → AnswerHolds k codes a

-- bytes are refused exactly where they are the file of no plan
abbrev pub RefusedIsNoFile : Type 0
RefusedIsNoFile =
    (bytes : List ℕ) → AreBytes bytes → (a : Answer) → Answers bytes a
    → (a.word ≡ Refused) ↔ ((k : Contents) (codes : List ℕ) → ¬ IsFile bytes k codes)

-- the two numbers of an answer are of 64 bits
abbrev pub Fits : Answer → Type 0
Fits a = (a.first < 2 ^ 64) × (a.second < 2 ^ 64)

-- a line is that of one answer, and so is a record
abbrev pub LinesTell : Type 0
LinesTell = (a b : Answer) → Fits a → Fits b → line_of a ≡ line_of b → a ≡ b

abbrev pub RecordsTell : Type 0
RecordsTell = (a b : Answer) → Fits a → Fits b → record_of a ≡ record_of b → a ≡ b

pub record AnswersCanBeTrusted : Type 0 where
  pub one_answer : OneAnswer
  pub words_are_true : WordsAreTrue
  pub refused_is_no_file : RefusedIsNoFile
