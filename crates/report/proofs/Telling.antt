-- Lines and records tell the answers that they are made of.
use Rattle.std.proofs.Common.{◌≡◌, ◌≢◌, ℕ, ◌^◌, ◌<◌, Bool, true, ◌&&◌, not, List, [], ◌∷◌, ◌++◌, take, drop, refl, sym, ap, ap₂, ◌∙◌, subst, true≢false, arith}
use Rattle.std.specs.Prelude.{◌==◌, if◌then◌else◌}
use Rattle.std.specs.Fmt.{decimal}
use Rattle.std.specs.Int.{w64, to_be_bytes, from_be_bytes}
use Rattle.std.specs.Char.{digit_value}
use Rattle.std.specs.Str.Parse.{AllDigits}
use Rattle.std.proofs.lemmas.Fmt.{decimal_is_IsNumeral, decimal_injective}
use Rattle.std.proofs.lemmas.Bool.{and_parts, eq-eqb}
use Rattle.std.proofs.lemmas.List.{append_assoc, append_cancel_right}
use Rattle.std.proofs.lemmas.Nat.{from_be_bytes-to_be_bytes_8}
use Rattle.report.specs.declared.words.Word.{Word}
use Rattle.report.specs.declared.words.Word.TheVariants.{Kept, Missed, Working, Marks, Refused}
use Rattle.report.specs.declared.words.Answer.{Answer}
use Rattle.report.specs.Texts.{word_text, word_number, answer_text}
use Rattle.report.specs.Theorems.{LinesTell, RecordsTell}

-- ---- words

-- the word of a number
abbrev word_of : ℕ → Word
word_of n = if n == 1 then Kept else (if n == 2 then Missed else (if n == 3 then Working else (if n == 4 then Marks else Refused)))

back : (w : Word) → word_of (word_number w) ≡ w
back Kept = refl
back Missed = refl
back Working = refl
back Marks = refl
back Refused = refl

numbers_tell : (v w : Word) → word_number v ≡ word_number w → v ≡ w
numbers_tell v w e = sym (back v) ∙ ap word_of e ∙ back w

-- by their first letters, and for missed and marks by the second
abbrev number_of_text : List ℕ → ℕ
number_of_text [] = 0
number_of_text (c ∷ []) = 0
number_of_text (c ∷ (d ∷ cs)) = if c == 107 then 1 else (if c == 119 then 3 else (if c == 114 then 5 else (if d == 105 then 2 else 4)))

numbered : (w : Word) → word_number w ≡ number_of_text (word_text w)
numbered Kept = refl
numbered Missed = refl
numbered Working = refl
numbered Marks = refl
numbered Refused = refl

texts_tell : (v w : Word) → word_text v ≡ word_text w → v ≡ w
texts_tell v w e = numbers_tell v w (numbered v ∙ ap number_of_text e ∙ sym (numbered w))

-- ---- lines

module _ (c : ℕ) where
  -- it is none of these
  abbrev None : List ℕ → Type 0
  None [] = Unit {0}
  None (x ∷ xs) = (x ≢ c) × None xs

  abbrev head_of : List ℕ → ℕ
  head_of [] = c
  head_of (x ∷ xs) = x

  -- what stands before the first c, and behind it
  split_at_first : (xs us ys vs : List ℕ) → None xs → None us → xs ++ c ∷ ys ≡ us ++ c ∷ vs → (xs ≡ us) × (ys ≡ vs)
  split_at_first [] [] ys vs n m e = (refl, ap (drop 1) e)
  split_at_first [] (u ∷ us) ys vs n m e = absurd (m.0 (sym (ap head_of e)))
  split_at_first (x ∷ xs) [] ys vs n m e = absurd (n.0 (ap head_of e))
  split_at_first (x ∷ xs) (u ∷ us) ys vs n m e =
      let q = split_at_first xs us ys vs n.1 m.1 (ap (drop 1) e) in
      (ap₂ (λ x xs. x ∷ xs) (ap head_of e) q.0, q.1)

abbrev space : ℕ
space = 32

no_space_in_digits : (ds : List ℕ) → AllDigits 10 ds → None space ds
no_space_in_digits [] all = tt
no_space_in_digits (d ∷ ds) all = ((λ e. omega (arith, subst (λ x. digit_value x < 10) e all.0)), no_space_in_digits ds all.1)

no_space_in_decimal : (n : ℕ) → n < 2 ^ 64 → None space (decimal n)
no_space_in_decimal n fits = no_space_in_digits (decimal n) (decimal_is_IsNumeral n fits).0.1

-- the same as a test
abbrev free : List ℕ → Bool
free [] = true
free (x ∷ xs) = not (x == space) && free xs

is_free : (xs : List ℕ) → free xs ≡ true → None space xs
is_free [] e = tt
is_free (x ∷ xs) e =
    let q = and_parts (not (x == space)) (free xs) e in
    ((λ same. true≢false (sym q.0 ∙ ap not (eq-eqb x space same))), is_free xs q.1)

no_space_in_words : (w : Word) → None space (word_text w)
no_space_in_words Kept = is_free (word_text Kept) refl
no_space_in_words Missed = is_free (word_text Missed) refl
no_space_in_words Working = is_free (word_text Working) refl
no_space_in_words Marks = is_free (word_text Marks) refl
no_space_in_words Refused = is_free (word_text Refused) refl

same_answer : (a b : Answer) → a.word ≡ b.word → a.first ≡ b.first → a.second ≡ b.second → a ≡ b
same_answer a b w f s = rw (w, f, s) refl

-- what stands behind the word
abbrev numbers_text : Answer → List ℕ
numbers_text a = decimal a.first ++ space ∷ decimal a.second

parted : (a : Answer) → answer_text a ≡ word_text a.word ++ space ∷ numbers_text a
parted a = append_assoc (word_text a.word) (space ∷ decimal a.first) (space ∷ decimal a.second)

pub lines_tell : LinesTell
lines_tell a b fits fits' e =
    let text = sym (parted a) ∙ append_cancel_right (answer_text a) (answer_text b) (10 ∷ []) e ∙ parted b in
    let outer = split_at_first space (word_text a.word) (word_text b.word) (numbers_text a) (numbers_text b) (no_space_in_words a.word) (no_space_in_words b.word) text in
    let free_a = no_space_in_decimal a.first fits.0 in
    let free_b = no_space_in_decimal b.first fits'.0 in
    let inner = split_at_first space (decimal a.first) (decimal b.first) (decimal a.second) (decimal b.second) free_a free_b outer.1 in
    same_answer a b
    (texts_tell a.word b.word outer.0)
    (decimal_injective a.first b.first fits.0 fits'.0 inner.0)
    (decimal_injective a.second b.second fits.1 fits'.1 inner.1)

-- ---- records

eight_tell : (m n : ℕ) → m < 2 ^ 64 → n < 2 ^ 64 → to_be_bytes w64 m ≡ to_be_bytes w64 n → m ≡ n
eight_tell m n l k e = sym (from_be_bytes-to_be_bytes_8 m l) ∙ ap (from_be_bytes w64) e ∙ from_be_bytes-to_be_bytes_8 n k

pub records_tell : RecordsTell
records_tell a b fits fits' e =
    same_answer a b
    (numbers_tell a.word b.word (ap (head_of 0) e))
    (eight_tell a.first b.first fits.0 fits'.0 (ap (λ l. take 8 (drop 1 l)) e))
    (eight_tell a.second b.second fits.1 fits'.1 (ap (drop 9) e))
