-- Words of letters and digits, with one space between each and the next.
use Rattle.std.proofs.Common.{◌≡◌, ℕ, zero, suc, ◌<◌, ◌≤◌, Bool, true, false, not, ◌&&◌, nat_le, List, [], ◌∷◌, ◌++◌, length, sym, refl, ap, ◌∙◌, append-nil, arith}
use Rattle.std.specs.Prelude.{◌==◌}
use Rattle.std.specs.List.{All}
use Rattle.std.specs.Char.{is_whitespace, is_not_whitespace}
use Rattle.std.specs.Str.{IsAscii, NonePass, NoCharPasses, EmptyOrStartsWithPassing}
use Rattle.std.proofs.lemmas.Bool.{leb-true, ne_eqb, and_parts, agree_below_at, not-true}
use Rattle.std.proofs.lemmas.List.Elements.{All-nil, All-cons, All-append}
use Rattle.std.proofs.lemmas.Str.{encodes-IsAscii, encode_ascii, NoCharPasses-nil}
use Rattle.plantext.specs.Taking.{SplitsInto}

-- a byte from `0` to `z`: digits and letters are such, and no space, comment or end of a line
abbrev pub solid : ℕ → Bool
solid b = nat_le 48 b && nat_le b 122

abbrev pub all_solid : List ℕ → Bool
all_solid [] = true
all_solid (b ∷ bs) = solid b && all_solid bs

pub record IsWord (w : List ℕ) : Type 0 where
  pub some : 0 < length w
  pub bytes : all_solid w ≡ true

abbrev pub AreWords : List (List ℕ) → Type 0
AreWords [] = Unit {0}
AreWords (w ∷ ws) = IsWord w × AreWords ws

-- the words, with one space between each and the next
abbrev pub spaced : List (List ℕ) → List ℕ
spaced [] = []
spaced (w ∷ []) = w
spaced (w ∷ v ∷ ws) = w ++ 32 ∷ spaced (v ∷ ws)

within : (b : ℕ) → solid b ≡ true → (48 ≤ b) × (b ≤ 122)
within b h = let q = and_parts (nat_le 48 b) (nat_le b 122) h in (leb-true 48 b q.0, leb-true b 122 q.1)

-- ---- one word

not_white : (b : ℕ) → solid b ≡ true → is_whitespace b ≡ false
not_white b h =
    let q = within b h in
    let apart = agree_below_at (λ b. not (solid b && is_whitespace b)) (λ b. true) 128 b refl (omega (arith, q.1)) in
    not-true (is_whitespace b) (sym (ap (λ t. not (t && is_whitespace b)) h) ∙ apart)

none_white : (w : List ℕ) → all_solid w ≡ true → NonePass is_whitespace w
none_white [] h = tt
none_white (b ∷ bs) h = let q = and_parts (solid b) (all_solid bs) h in (not_white b q.0, none_white bs q.1)

ascii : (w : List ℕ) → all_solid w ≡ true → IsAscii w
ascii [] h i = omega arith
ascii (b ∷ bs) h zero = let q = within b (and_parts (solid b) (all_solid bs) h).0 in omega (arith, q.1)
ascii (b ∷ bs) h (suc i) = ascii bs (and_parts (solid b) (all_solid bs) h).1 i

whole : (w : List ℕ) → all_solid w ≡ true → NoCharPasses is_whitespace w
whole w h = (w, encodes-IsAscii w (ascii w h), none_white w h)

-- ---- the words of what is spaced

space_is : ◌≡◌ {A = List ℕ} (Rattle.std.specs.Char.encode_utf8 32) (32 ∷ [])
space_is = encode_ascii 32 (omega arith)

one_space : NoCharPasses is_not_whitespace (32 ∷ [])
one_space = (32 ∷ [], ap (λ l. l ++ []) space_is, (refl, tt))

pub splits : (gap : List ℕ) → NoCharPasses is_not_whitespace gap → (ws : List (List ℕ)) → AreWords ws → SplitsInto (gap ++ spaced ws) ws
splits gap blank [] are = rw (append-nil gap) blank
splits gap blank (w ∷ []) are = (
  [],
  record {
    gap = gap;
    split = ap (λ l. gap ++ l) (sym (append-nil w));
    nonempty = are.0.some;
    gap_is_blank = blank;
    word_is_whole = whole w are.0.bytes;
    rest_starts_blank = ([], λ l. absurd (omega (arith, l)));
  },
  NoCharPasses-nil is_not_whitespace,
)
splits gap blank (w ∷ v ∷ ws) are = (
  32 ∷ spaced (v ∷ ws),
  record {
    gap = gap;
    split = refl;
    nonempty = are.0.some;
    gap_is_blank = blank;
    word_is_whole = whole w are.0.bytes;
    rest_starts_blank = (spaced (v ∷ ws), λ _. (32, refl, sym (ap (λ l. l ++ spaced (v ∷ ws)) space_is), refl));
  },
  splits (32 ∷ []) one_space (v ∷ ws) are.1,
)

-- ---- what no such line has

module _ (c : ℕ) (low : c < 48) where
  -- this byte is not among them
  abbrev pub Without : List ℕ → Type 0
  Without bs = All (λ b. (b == c) ≡ false) bs

  word_without : (w : List ℕ) → all_solid w ≡ true → Without w
  word_without [] h = All-nil (λ b. (b == c) ≡ false)
  word_without (b ∷ bs) h =
      let q = and_parts (solid b) (all_solid bs) h in
      let g = within b q.0 in
      All-cons (λ b. (b == c) ≡ false) b bs (ne_eqb b c (λ e. omega (arith, e, g.0, low))) (word_without bs q.1)

  pub spaced_without : ¬ (32 ≡ c) → (ws : List (List ℕ)) → AreWords ws → Without (spaced ws)
  spaced_without ne [] are = All-nil (λ b. (b == c) ≡ false)
  spaced_without ne (w ∷ []) are = word_without w are.0.bytes
  spaced_without ne (w ∷ v ∷ ws) are =
      All-append (λ b. (b == c) ≡ false) w (32 ∷ spaced (v ∷ ws)) (word_without w are.0.bytes)
      (All-cons (λ b. (b == c) ≡ false) 32 (spaced (v ∷ ws)) (ne_eqb 32 c ne) (spaced_without ne (v ∷ ws) are.1))
