-- The line that is printed.
use Rattle.std.specs.Prelude.{◌≡◌, ℕ, List, take}
use Rattle.report.specs.declared.words.Answer.{Answer}
use Rattle.report.specs.Texts.{line_of}
use Rattle.report.specs.Said.{Answers}

-- this line is printed of these bytes
pub record Prints (bytes text : List ℕ) : Type 0 where
  pub answer : Answer
  pub said : Answers bytes answer
  pub line : text ≡ line_of answer

-- so many bytes of an input are read
abbrev pub most_read : ℕ
most_read = 8192

-- this line is that of every input of which these bytes are read
abbrev pub PrintsWhole : List ℕ → List ℕ → Type 0
PrintsWhole bytes text = (input : List ℕ) → take most_read input ≡ bytes → Prints input text
