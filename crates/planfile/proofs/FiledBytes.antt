-- The bytes at a place are those of the record that is read there.
use Rattle.std.proofs.Common.{◌≡◌, ℕ, suc, ◌+◌, ◌*◌, ◌/◌, ◌%◌, ◌<◌, ◌≤◌, List, [], ◌∷◌, ◌++◌, length, drop, slice_index, sym, refl, ap, ap₂, ◌∙◌, drop-cons, arith}
use Rattle.policy.specs.Words.{FitsWord}
use Rattle.plan.specs.Rows.{FitsWords}
use Rattle.planfile.specs.Files.{two_bytes, handler_record}
use Rattle.planfile.specs.Tests.{Standing, byte, word, kind_here, handler_here}
use Rattle.planfile.specs.Theorems.{AreBytes}

-- two bytes are those of the number that they make
two_are : (hi lo : ℕ) → lo < 256 → two_bytes (256 * hi + lo) ≡ hi ∷ lo ∷ []
two_are hi lo l =
    let high : (256 * hi + lo) / 256 ≡ hi = omega (arith, l) in
    let low : (256 * hi + lo) % 256 ≡ lo = omega (arith, l) in
    ap₂ (λ x y. x ∷ y ∷ []) high low

module _ (bytes : List ℕ) where
  one_there : (p i j : ℕ) → i ≡ p → j ≡ suc p → p < length bytes → drop p bytes ≡ slice_index bytes i ∷ drop j bytes
  one_there p i j e f l = drop-cons bytes p 0 l ∙ ap₂ (λ x y. slice_index bytes x ∷ drop y bytes) (sym e) (sym f)

  -- the bytes at i and j are a number of two bytes, and those from n on follow
  abbrev NumberAt : ℕ → ℕ → ℕ → Type 0
  NumberAt i j n = drop i bytes ≡ two_bytes (256 * slice_index bytes i + slice_index bytes j) ++ drop n bytes

  two_there : AreBytes bytes → (i j n : ℕ) → j ≡ suc i → n ≡ suc j → j < length bytes → NumberAt i j n
  two_there small i j n e f l =
      one_there i i j refl e (omega (arith, e, l)) ∙ ap (λ t. slice_index bytes i ∷ t) (one_there j j n refl f l)
      ∙ sym (ap (λ t. t ++ drop n bytes) (two_are (slice_index bytes i) (slice_index bytes j) (small j)))

  module _ (s : Standing) where
    -- two bytes are a number of 16 bits
    pub handler_fits : AreBytes bytes → FitsWords (handler_here bytes s)
    handler_fits small = (fits 1, fits 3, fits 5, fits 7)
      where
        fits : (i : ℕ) → FitsWord (word bytes s i)
        fits i = omega (arith, small (s.place + i), small (s.place + suc i))

    kind_there : (kind : ℕ) → kind_here bytes s ≡ kind → s.place < length bytes → drop s.place bytes ≡ kind ∷ drop (s.place + 1) bytes
    kind_there kind e l = one_there s.place (s.place + 0) (s.place + 1) (omega arith) (omega arith) l ∙ ap (λ x. x ∷ drop (s.place + 1) bytes) e

    pub handler_there : AreBytes bytes → kind_here bytes s ≡ 1 → s.place + 10 ≤ length bytes
        → drop s.place bytes ≡ handler_record (handler_here bytes s) ++ drop (s.place + 10) bytes
    handler_there small e l =
        let p = s.place in
        let number : (i j n : ℕ) → j ≡ suc i → n ≡ suc j → j < length bytes → NumberAt i j n = two_there small in
        let core = one_there (p + 9) (p + 9) (p + 10) refl (omega arith) (omega (arith, l)) in
        let longest = number (p + 7) (p + 8) (p + 9) (omega arith) (omega arith) (omega (arith, l)) ∙ ap (λ t. two_bytes (word bytes s 7) ++ t) core in
        let shortest = number (p + 5) (p + 6) (p + 7) (omega arith) (omega arith) (omega (arith, l)) ∙ ap (λ t. two_bytes (word bytes s 5) ++ t) longest in
        let offset = number (p + 3) (p + 4) (p + 5) (omega arith) (omega arith) (omega (arith, l)) ∙ ap (λ t. two_bytes (word bytes s 3) ++ t) shortest in
        let period = number (p + 1) (p + 2) (p + 3) (omega arith) (omega arith) (omega (arith, l)) ∙ ap (λ t. two_bytes (word bytes s 1) ++ t) offset in
        kind_there 1 e (omega (arith, l)) ∙ ap (λ t. 1 ∷ t) period

    -- two bytes behind a kind
    pub pair_there : (kind : ℕ) → kind_here bytes s ≡ kind → s.place + 3 ≤ length bytes
        → drop s.place bytes ≡ (kind ∷ byte bytes s 1 ∷ byte bytes s 2 ∷ []) ++ drop (s.place + 3) bytes
    pair_there kind e l =
        let p = s.place in
        let last = one_there (p + 2) (p + 2) (p + 3) refl (omega arith) (omega (arith, l)) in
        let both = one_there (p + 1) (p + 1) (p + 2) refl (omega arith) (omega (arith, l)) ∙ ap (λ t. byte bytes s 1 ∷ t) last in
        kind_there kind e (omega (arith, l)) ∙ ap (λ t. kind ∷ t) both

    pub end_there : kind_here bytes s ≡ 4 → s.place + 1 ≤ length bytes → drop s.place bytes ≡ 4 ∷ drop (s.place + 1) bytes
    end_there e l = kind_there 4 e (omega (arith, l))
