-- The words, and how answers are printed.
use Rattle.std.specs.Prelude.{ℕ, List, [], ◌∷◌, ◌++◌, codes}
use Rattle.std.specs.Fmt.{decimal}
use Rattle.report.specs.declared.words.Word.{Word}
use Rattle.report.specs.declared.words.Word.TheVariants.{Kept, Missed, Working, Marks, Refused}
use Rattle.report.specs.declared.words.Answer.{Answer}

abbrev pub word_text : Word → List ℕ
word_text Kept = codes "kept"
word_text Missed = codes "missed"
word_text Working = codes "working"
word_text Marks = codes "marks"
word_text Refused = codes "refused"

-- 1 to 5, in the order of the enum
abbrev pub word_number : Word → ℕ
word_number Kept = 1
word_number Missed = 2
word_number Working = 3
word_number Marks = 4
word_number Refused = 5

-- the word and the two numbers, decimal, with single spaces (32) between them
abbrev pub answer_text : Answer → List ℕ
answer_text a = word_text a.word ++ 32 ∷ decimal a.first ++ 32 ∷ decimal a.second

-- the same with a line feed (10) at its end
abbrev pub line_of : Answer → List ℕ
line_of a = answer_text a ++ 10 ∷ []
