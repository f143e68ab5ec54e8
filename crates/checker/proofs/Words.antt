-- Words of 64 bits: made bit by bit, and looked at from the lowest bit on.
use Rattle.std.proofs.Common.{◌≡◌, ℕ, w64, ◌↔◌, ◌+◌, ◌-◌, ◌*◌, ◌%◌, ◌^◌, ◌<◌, ◌≤◌, ◌≢◌, ◌⊎◌, sym, ap, subst, ◌∙◌, inl, inr, bit_and, bit_or, arith}
use Rattle.std.specs.Int.{bit_at, trailing_zeros}
use Rattle.std.proofs.lemmas.Bool.{cases_eq, cases_lt}
use Rattle.std.proofs.lemmas.Nat.{and_le_l}
use Rattle.std.proofs.lemmas.Nat.Bits.{bit_at-zero, bit_at-lt, bit_at_set_same, bit_at_set_other, same_from_bits, bit_at-trailing_zeros, bit_at_clear_same, bit_at_clear_other, bit_at_above}

-- ---- making

module _ (P : ℕ → Type 0) where
  -- the word has the bits of those of the first n places of which P holds, and no other
  pub record BitsTo (n word : ℕ) : Type 0 where
    pub bits : (i : ℕ) → bit_at word i ≡ 1 ↔ ((i < n) × P i)

  pub bits_none : BitsTo 0 0
  bits_none = record { bits = λ i. (λ e. absurd (omega (arith, e, bit_at-zero i)), λ h. absurd (omega (arith, h.0))) }

  module _ (n word : ℕ) (small : n < 64) (to : BitsTo n word) where
    pub bits_set : P n → BitsTo (n + 1) (bit_or word (1 * 2 ^ n % 2 ^ 64))
    bits_set own = record {
      bits = λ i.
          elim (cases_eq i n) [
            | inl e ↦ (λ h. (omega arith, subst P (sym e) own), λ h. rw e (bit_at_set_same w64 word n small))
            | inr ne ↦ (
                let same = bit_at_set_other w64 word n small i ne in
                (λ h. let x = (to.bits i).0 (sym same ∙ h) in (omega (arith, x.0), x.1), λ h. same ∙ (to.bits i).1 (omega (arith, h.0), h.1)))
          ];
    }

    pub bits_skip : ¬ P n → BitsTo (n + 1) word
    bits_skip lacks = record {
      bits = λ i. (
        λ h. let x = (to.bits i).0 h in (omega (arith, x.0), x.1),
        λ h.
            elim (cases_eq i n) [
              | inl e ↦ absurd (lacks (subst P e h.1))
              | inr ne ↦ (to.bits i).1 (omega (arith, h.0), h.1)
            ],
      );
    }

-- a word without a bit is 0
pub bits_empty : (word : ℕ) → ((i : ℕ) → bit_at word i ≡ 1 → ⊥) → word ≡ 0
bits_empty word none =
    same_from_bits word 0 (λ i.
    elim (cases_eq (bit_at word i) 1) [
      | inl e ↦ absurd (none i e)
      | inr ne ↦ omega (arith, bit_at-lt word i, bit_at-zero i)
    ])

-- ---- looking from the lowest bit on

module _ (word : ℕ) (fits : word < 2 ^ 64) (some : 0 < word) where
  abbrev pub lowest : ℕ
  lowest = trailing_zeros w64 word

  abbrev pub cleared : ℕ
  cleared = bit_and word (2 ^ 64 - 1 - 1 * 2 ^ lowest % 2 ^ 64)

  is_lowest : (lowest < 64) × (bit_at word lowest ≡ 1)
  is_lowest = let h = bit_at-trailing_zeros w64 word some fits in (h.0, h.1)

  gone : bit_at cleared lowest ≡ 0
  gone = bit_at_clear_same w64 word lowest is_lowest.0

  pub fewer : cleared < word
  fewer =
      elim (cases_eq cleared word) [
        | inl same ↦ absurd (omega (arith, gone, is_lowest.1, ap (λ n. bit_at n lowest) same))
        | inr other ↦ omega (arith, and_le_l word (2 ^ 64 - 1 - 1 * 2 ^ lowest % 2 ^ 64))
      ]

  pub still : (a : ℕ) → bit_at cleared a ≡ 1 → bit_at word a ≡ 1
  still a h =
      elim (cases_eq a lowest) [
        | inl e ↦ absurd (omega (arith, gone, h, ap (bit_at cleared) e))
        | inr ne ↦
            elim (cases_lt a 64) [
              | inl low ↦ sym (bit_at_clear_other w64 word lowest is_lowest.0 a low ne) ∙ h
              | inr high ↦ absurd (omega (arith, h, fewer, fits, bit_at_above cleared 64 a (omega (arith, fewer, fits)) high))
            ]
      ]

  pub others : (a : ℕ) → bit_at word a ≡ 1 → (bit_at cleared a ≡ 1) ⊎ (a ≡ lowest)
  others a h =
      elim (cases_eq a lowest) [
        | inl e ↦ inr e
        | inr ne ↦
            elim (cases_lt a 64) [
              | inl low ↦ inl (bit_at_clear_other w64 word lowest is_lowest.0 a low ne ∙ h)
              | inr high ↦ absurd (omega (arith, h, bit_at_above word 64 a fits high))
            ]
      ]
