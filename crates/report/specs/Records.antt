-- An answer as a record of bytes.
use Rattle.std.specs.Prelude.{◌≡◌, ◌≢◌, ℕ, Bool, true, false, List, ◌∷◌, ◌++◌, length}
use Rattle.std.specs.Int.{w64, to_be_bytes}
use Rattle.report.specs.declared.words.Answer.{Answer}
use Rattle.report.specs.Texts.{word_number}
use Rattle.report.specs.Said.{Answers}

-- how long a record is
abbrev pub record_length : ℕ
record_length = 17

-- the word's number, and the two numbers, eight bytes each, the high byte first
abbrev pub record_of : Answer → List ℕ
record_of a = word_number a.word ∷ to_be_bytes w64 a.first ++ to_be_bytes w64 a.second

-- the record is filled with what is said of the bytes, where it has the length of one; else it is what it was
abbrev pub Fills : List ℕ → List ℕ → Bool → List ℕ → Type 0
Fills bytes was true is = (length was ≡ record_length) × ((a : Answer) × Answers bytes a × (is ≡ record_of a))
Fills bytes was false is = (length was ≢ record_length) × (is ≡ was)

-- 1 for true, and 0 for false
abbrev pub as_number : Bool → ℕ
as_number true = 1
as_number false = 0
