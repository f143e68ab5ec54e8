-- The codes of numbers.
use Rattle.std.proofs.Common.{◌≡◌, ℕ, ◌+◌, ◌<◌, ◌≤◌, List, map, length, slice_index_or, slice_index, slice_set, Ok, Err, Result, refl, sym, ◌∙◌, subst, inl, inr, arith}
use Rattle.std.proofs.lemmas.Bool.{cases_eq}
use Rattle.std.proofs.lemmas.List.{length-set, length-map, get_or-map, get_or-set_same, get_or-set_other, ext_get_or}
use Rattle.std.proofs.lemmas.List.Elements.{Contains-get_or}
use Rattle.std.specs.Result.{IsOk}
use Rattle.policy.specs.declared.codes.Code.{Code}
use Rattle.policy.specs.declared.codes.Code.TheVariants.{FixedPriority}
use Rattle.policy.specs.declared.codes.UnknownCode.{UnknownCode}
use Rattle.policy.specs.Codes.{number_of, IsCode, Decodes}
use Rattle.planfile.specs.Theorems.{AreCodes}

pub is_decoded : (n : ℕ) (r : Result Code UnknownCode) → IsCode n → Decodes n r → IsOk r
is_decoded n (Ok c) is d = refl
is_decoded n (Err e) is d = absurd (d.1 is)

pub code_there : (numbers : List ℕ) (i : ℕ) → AreCodes numbers → i < 8 → IsCode (slice_index numbers i)
code_there numbers i are low = are.each (slice_index numbers i) (Contains-get_or numbers i 0 (omega (arith, low, are.eight)))

-- of eight codes those before this place have these numbers
pub record Decoded (numbers : List ℕ) (codes : List Code) (place : ℕ) : Type 0 where
  pub long : length codes ≡ 8
  pub each : (i : ℕ) → i < place → number_of (slice_index_or codes i FixedPriority) ≡ slice_index numbers i

pub one_more : (numbers : List ℕ) (codes : List Code) (place : ℕ) (c : Code) → place < 8 → Decoded numbers codes place → number_of c ≡ slice_index numbers place
    → Decoded numbers (slice_set codes place c) (place + 1)
one_more numbers codes place c low d is = record { long = length-set codes place c ∙ d.long; each = each }
  where
    each : (i : ℕ) → i < place + 1 → number_of (slice_index_or (slice_set codes place c) i FixedPriority) ≡ slice_index numbers i
    each i l =
        elim (cases_eq i place) [
          | inl e ↦ rw (e, get_or-set_same codes place c FixedPriority (omega (arith, low, d.long))) is
          | inr other ↦ rw (get_or-set_other codes place i c FixedPriority other) (d.each i (omega (arith, l, other)))
        ]

pub all_are : (numbers : List ℕ) (codes : List Code) (place : ℕ) → length numbers ≡ 8 → 8 ≤ place → Decoded numbers codes place → map number_of codes ≡ numbers
all_are numbers codes place eight all d =
    ext_get_or 0 (map number_of codes) numbers (length-map codes number_of ∙ d.long ∙ sym eight) (λ i l.
    let low : i < length codes = subst (λ n. i < n) (length-map codes number_of) l in
    get_or-map number_of codes i FixedPriority 0 low ∙ d.each i (omega (arith, low, d.long, all)))
