-- A text cut into lines and words, piece by piece.
use Rattle.std.proofs.Common.{◌≡◌, ℕ, suc, ◌+◌, ◌<◌, List, [], ◌∷◌, ◌++◌, map, length, get_or, take, drop, Bor, None, refl, sym, subst, ap, ap₂, ◌∙◌, take-append-drop, drop-cons, arith}
use Rattle.std.specs.List.{take-map}
use Rattle.std.proofs.lemmas.List.{length-map}
use Rattle.std.proofs.lemmas.List.FromFn.{length-enumerate_from, get_or-enumerate_from}
use Rattle.std.proofs.lemmas.Simd.{map-map}
use Rattle.std.specs.List.{enumerate_from}
use Rattle.std.specs.Str.{NoCharPasses, EmptyOrStartsWithPassing}
use Rattle.std.specs.Char.{is_whitespace, is_not_whitespace}
use Rattle.plantext.specs.Lines.{texts}
use Rattle.std.specs.Iterator.{Yields}
use Rattle.std.specs.Str.Iter.{split_whitespace_rest, split_whitespace_steps}
use Rattle.std.specs.declared.str.SplitWhitespace.{SplitWhitespace}
use Rattle.plantext.specs.Taking.{StartsWithWord, SplitsInto}

-- what the iterator over words says of one, as the record
starts_from : (text word rest : List ℕ) → (gap : List ℕ) × (text ≡ gap ++ (word ++ rest)) × (0 < length word) × NoCharPasses is_not_whitespace gap × NoCharPasses is_whitespace word × ((more : List ℕ) × EmptyOrStartsWithPassing is_whitespace rest more)
    → StartsWithWord text word rest
starts_from text word rest x = record { gap = x.0; split = x.1; nonempty = x.2; gap_is_blank = x.3; word_is_whole = x.4; rest_starts_blank = x.5 }

-- all that it gives are the words of its text
pub all_words : (xs : List (Bor (List ℕ))) (s t u : SplitWhitespace) → Yields split_whitespace_steps s xs t → split_whitespace_steps t None u → SplitsInto (split_whitespace_rest s) (texts xs)
all_words [] s t u is last = subst (λ p. NoCharPasses is_not_whitespace (split_whitespace_rest p)) (sym is) last.1
all_words (x ∷ xs) s t u (j, step, more) last = (split_whitespace_rest j, starts_from _ _ _ step, all_words xs j t u more last)

-- the lines that were numbered so far
abbrev pub lines_of : List (ℕ × Bor (List ℕ)) → List (List ℕ)
lines_of xs = map (λ x. x.1.now) xs

unnumbered : (n : ℕ) (ys : List (List ℕ)) → map {A = ℕ × List ℕ} (λ p. p.1) (enumerate_from n ys) ≡ ys
unnumbered n [] = refl
unnumbered n (y ∷ ys) = ap (λ l. y ∷ l) (unnumbered (n + 1) ys)

pub lines_are : (xs : List (ℕ × Bor (List ℕ))) (ys : List (List ℕ)) → map (λ x. (x.0, x.1.now)) xs ≡ enumerate_from 0 ys → lines_of xs ≡ ys
lines_are xs ys e = sym (map-map (λ p. p.1) (λ x. (x.0, x.1.now)) xs) ∙ ap (map {A = ℕ × List ℕ} (λ p. p.1)) e ∙ unnumbered 0 ys

-- the line whose turn it is, after those that were numbered so far
pub record Turn (xs : List (ℕ × Bor (List ℕ))) (ls : List (List ℕ)) (at : ℕ) (line : List ℕ) : Type 0 where
  pub after : List (List ℕ)
  pub split : ls ≡ lines_of xs ++ line ∷ after
  pub number : at ≡ length (lines_of xs)

pub turn_is : (xs : List (ℕ × Bor (List ℕ))) (ls : List (List ℕ)) (at : ℕ) (line : List ℕ) → map (λ x. (x.0, x.1.now)) xs ≡ take (length xs) (enumerate_from 0 ls)
    → (length xs < length (enumerate_from 0 ls)) × ((at, line) ≡ get_or (enumerate_from 0 ls) (length xs) (at, line)) → Turn xs ls at line
turn_is xs ls at line front here =
    let n = length xs in
    let inside : n < length ls = omega (arith, here.0, length-enumerate_from 0 ls) in
    let item : ◌≡◌ {A = ℕ × List ℕ} (at, line) (0 + n, get_or ls n line) = here.1 ∙ get_or-enumerate_from 0 ls n (at, line) inside in
    let at_is : at ≡ 0 + n = ap (λ (p : ℕ × List ℕ). p.0) item in
    let line_is : line ≡ get_or ls n line = ap (λ (p : ℕ × List ℕ). p.1) item in
    let before : lines_of xs ≡ take n ls =
    sym (map-map (λ p. p.1) (λ x. (x.0, x.1.now)) xs) ∙ ap (map {A = ℕ × List ℕ} (λ p. p.1)) front
    ∙ sym (take-map {X = ℕ × List ℕ} (λ p. p.1) n (enumerate_from 0 ls)) ∙ ap (take n) (unnumbered 0 ls) in
    record {
      after = drop (suc n) ls;
      split = sym (take-append-drop n ls) ∙ ap₂ (λ a b. a ++ b) (sym before) (drop-cons ls n line inside ∙ ap (λ x. x ∷ drop (suc n) ls) (sym line_is));
      number = omega (arith, at_is, length-map xs (λ (x : ℕ × Bor (List ℕ)). x.1.now));
    }
