-- How long the text of a plan can be.
use Rattle.std.proofs.Common.{◌≡◌, ℕ, ◌+◌, ◌-◌, ◌*◌, ◌^◌, ◌<◌, ◌≤◌, Bool, true, false, nat_le, ◌&&◌, cond, List, [], ◌∷◌, ◌++◌, length, flat_map, decimal, sym, ◌∙◌, subst, length-append, suc-mul, mul-add, refl, arith}
use Rattle.std.specs.Prelude.{slice_index}
use Rattle.std.specs.List.{range_with_len, Contains as Has}
use Rattle.std.proofs.lemmas.Bool.{and_parts}
use Rattle.std.proofs.lemmas.Fmt.{length-decimal-le}
use Rattle.std.proofs.lemmas.List.{get_or_default}
use Rattle.std.proofs.lemmas.List.FromFn.{length-range_with_len, get_or-range_with_len}
use Rattle.gather.proofs.Counting.{has_here, has_there}
use Rattle.plan.specs.declared.handlers.Handler.{Handler}
use Rattle.policy.specs.declared.codes.Code.TheVariants.{FixedPriority, RateMonotonic, EarliestDeadline}
use Rattle.policy.specs.Codes.{IsCode}
use Rattle.plan.specs.Rows.{blank}
use Rattle.plan.specs.Contents.{Contents, Sound, at, count, joins}
use Rattle.planfile.specs.Files.{numbers, join_record, record_if_joined, joins_from}
use Rattle.planfile.specs.Theorems.{AreCodes}
use Rattle.planfile.proofs.Lengths.{most_joins}
use Rattle.plantext.specs.Texts.{core_line, handler_line, join_line, core_lines, handler_lines, line_if_joined, lines_from, join_lines, text_of}
use Rattle.plantext.specs.RoundTrips.{FitsLine, AllFitLines, longest_text}

-- as many bytes as elements, times the most that one of them has
at_most : {X : Type 0} (f : X → List ℕ) (most : ℕ) (xs : List X) → ((x : X) → Has xs x → length (f x) ≤ most) → length (flat_map f xs) ≤ length xs * most
at_most f most [] each = omega arith
at_most f most (x ∷ xs) each =
    omega (
      arith,
      length-append (f x) (flat_map f xs),
      each x (has_here x xs),
      at_most f most xs (λ y h. each y (has_there x y xs h)),
      suc-mul (length xs) most,
    )

-- so many times as many, where it is so of each
times : {X : Type 0} (f g : X → List ℕ) (n : ℕ) (xs : List X) → ((x : X) → length (f x) ≤ n * length (g x)) → length (flat_map f xs) ≤ n * length (flat_map g xs)
times f g n [] each = omega arith
times f g n (x ∷ xs) each =
    let sum : n * (length (g x) + length (flat_map g xs)) ≡ n * length (g x) + n * length (flat_map g xs) = mul-add n (length (g x)) (length (flat_map g xs)) in
    let whole : length (g x ++ flat_map g xs) ≡ length (g x) + length (flat_map g xs) = length-append (g x) (flat_map g xs) in
    rw whole (omega (arith, sum, each x, times f g n xs each, length-append (f x) (flat_map f xs)))

one_digit : (n : ℕ) → n < 10 → length (decimal n) ≤ 1
one_digit n l = length-decimal-le 1 n (omega arith) l (omega (arith, l))

two_digits : (n : ℕ) → n < 100 → length (decimal n) ≤ 2
two_digits n l = length-decimal-le 2 n (omega arith) l (omega (arith, l))

five_digits : (n : ℕ) → n < 2 ^ 16 → length (decimal n) ≤ 5
five_digits n l = length-decimal-le 5 n (omega arith) (omega (arith, l)) (omega (arith, l))

core_length : (c code : ℕ) → c < 10 → code < 10 → length (core_line c code) ≤ 14
core_length c code low few = simp length-append (omega (arith, one_digit c low, one_digit code few))

handler_length : (h : Handler) → FitsLine h → h.core < 10 → length (handler_line h) ≤ 70
handler_length h fits low =
    simp length-append
    (omega (arith, one_digit h.core low, five_digits h.period fits.period, five_digits h.offset fits.offset, five_digits h.shortest fits.shortest, five_digits h.longest fits.longest))

join_length : (a b : ℕ) → a < 100 → b < 100 → length (join_line a b) ≤ 24
join_length a b la lb = simp length-append (omega (arith, two_digits a la, two_digits b lb))

code_small : (n : ℕ) → IsCode n → n < 10
code_small n (FixedPriority, is) = omega arith
code_small n (RateMonotonic, is) = omega arith
code_small n (EarliestDeadline, is) = omega arith

cores_length : (codes : List ℕ) → AreCodes codes → length (core_lines codes) ≤ 112
cores_length codes are =
    omega (
      arith,
      are.eight,
      length-range_with_len 1 (length codes),
      at_most (λ c. core_line c (slice_index codes (c - 1))) 14 (range_with_len 1 (length codes)) each,
    )
  where
    each : (c : ℕ) → Has (range_with_len 1 (length codes)) c → length (core_line c (slice_index codes (c - 1))) ≤ 14
    each c (i, inside, here) =
        let within : i < length codes = omega (arith, inside, length-range_with_len 1 (length codes)) in
        let is : c ≡ 1 + i = sym here ∙ get_or-range_with_len 1 (length codes) i c within in
        let code = slice_index codes (c - 1) in
        let there : Has codes code = (c - 1, omega (arith, is, within), get_or_default codes (c - 1) code 0 (omega (arith, is, within))) in
        core_length c code (omega (arith, is, within, are.eight)) (code_small code (are.each code there))

module _ (k : Contents) (sound : Sound k) where
  handlers_length : AllFitLines k → length (handler_lines k) ≤ 4480
  handlers_length fit = omega (arith, sound.few, at_most handler_line 70 k.handlers each)
    where
      each : (h : Handler) → Has k.handlers h → length (handler_line h) ≤ 70
      each h there =
          let is : at k there.0 ≡ h = get_or_default k.handlers there.0 blank h there.1 ∙ there.2 in
          handler_length h (fit h there) (subst (λ g. g.core < 10) is (omega (arith, (sound.ranges there.0 there.1).4)))

  joined_places : (a b : ℕ) → joins k a b ≡ true → k.joined (a - 1) (b - 1) ≡ true
  joined_places a b j = (and_parts (nat_le 1 b) (k.joined (a - 1) (b - 1)) (and_parts (nat_le 1 a) (nat_le 1 b && k.joined (a - 1) (b - 1)) j).1).1

  -- a line of a join has at most eight times as many bytes as its record
  line_and_record : (a b : ℕ) → length (line_if_joined k a b) ≤ 8 * length (record_if_joined k a b)
  line_and_record a b = go (joins k a b) (λ there. sound.inside (a - 1) (b - 1) (joined_places a b there))
    where
      go : (t : Bool) → (t ≡ true → (a - 1 < count k) × (b - 1 < count k)) → length (cond t (join_line a b) []) ≤ 8 * length (cond t (join_record a b) [])
      go true inside = let q = inside refl in join_length a b (omega (arith, q.0, sound.few)) (omega (arith, q.1, sound.few))
      go false inside = omega arith

  joins_length : length (join_lines k) ≤ 48384
  joins_length =
      omega (
        arith,
        most_joins k sound,
        times (lines_from k) (joins_from k) 8 (numbers k) (λ a. times (line_if_joined k a) (record_if_joined k a) 8 (numbers k) (line_and_record a)),
      )

  pub text_fits : (codes : List ℕ) → AllFitLines k → AreCodes codes → length (text_of k codes) ≤ longest_text
  text_fits codes fit are =
      omega (
        arith,
        cores_length codes are,
        handlers_length fit,
        joins_length,
        length-append (core_lines codes) (handler_lines k ++ join_lines k),
        length-append (handler_lines k) (join_lines k),
      )
