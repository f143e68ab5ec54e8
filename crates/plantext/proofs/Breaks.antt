-- Where a text breaks into lines, and what stands before a comment.
use Rattle.std.proofs.Common.{◌≡◌, ℕ, ◌-◌, ◌<◌, List, [], ◌∷◌, ◌++◌, length, take, refl, ap, ◌∙◌, arith}
use Rattle.std.specs.Prelude.{◌==◌, slice_index}
use Rattle.std.specs.List.{slice_split, position_or_len}
use Rattle.std.specs.Str.Lines.{lines, lines_of_parts, strip_carriage_return}
use Rattle.std.proofs.lemmas.Bool.{cond-false}
use Rattle.std.proofs.lemmas.List.{take_all}
use Rattle.std.proofs.lemmas.List.Splits.{slice_split_at, length-slice_split}
use Rattle.std.proofs.lemmas.List.Sums.{position_or_len_is}
use Rattle.plantext.specs.Taking.{before_comment}
use Rattle.plantext.proofs.Words.{Without}

first_part : (x : List ℕ) (parts : List (List ℕ)) → 0 < length parts → lines_of_parts (x ∷ parts) ≡ strip_carriage_return x ∷ lines_of_parts parts
first_part x [] l = absurd (omega (arith, l))
first_part x (y ∷ more) l = refl

not_stripped : (x : List ℕ) → Without 13 (omega arith) x → strip_carriage_return x ≡ x
not_stripped [] none = refl
not_stripped (b ∷ bs) none =
    let last = length (b ∷ bs) - 1 in
    cond-false (slice_index (b ∷ bs) last == 13) (take last (b ∷ bs)) (b ∷ bs) (none last 0 (omega arith))

-- a line feed ends the first line
pub first_line : (line rest : List ℕ) → Without 10 (omega arith) line → Without 13 (omega arith) line → lines (line ++ 10 ∷ rest) ≡ line ∷ lines rest
first_line line rest no_feed no_return =
    let others = slice_split (λ b. b == 10) rest in
    ap lines_of_parts (slice_split_at (λ b. b == 10) line 10 rest no_feed refl)
    ∙ first_part line others (omega (arith, length-slice_split (λ b. b == 10) rest))
    ∙ ap (λ x. x ∷ lines_of_parts others) (not_stripped line no_return)

-- a line without comment
pub no_comment : (line : List ℕ) → Without 35 (omega arith) line → before_comment line ≡ line
no_comment line none =
    let all : position_or_len (λ b. b == 35) line ≡ length line =
    position_or_len_is (λ b. b == 35) line (length line) 0 (omega arith) (λ k l. none k 0 l) (λ l. absurd (omega (arith, l))) in
    ap (λ n. take n line) all ∙ take_all (length line) line (omega arith)
