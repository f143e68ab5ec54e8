-- How long the parts of a file are.
use Rattle.std.proofs.Common.{◌≡◌, ℕ, zero, suc, ◌+◌, ◌-◌, ◌*◌, ◌<◌, ◌≤◌, Bool, true, false, ◌&&◌, nat_le, cond, ◌⊎◌, List, [], ◌∷◌, ◌++◌, length, flat_map, refl, sym, ap, le_of_eq, zero-add, inl, inr, add-mul, suc-mul, length-append, arith}
use Rattle.std.proofs.lemmas.Bool.{and_parts}
use Rattle.std.proofs.lemmas.List.FromFn.{length-range_with_len}
use Rattle.plan.specs.declared.handlers.Handler.{Handler}
use Rattle.plan.specs.Joins.{one, more}
use Rattle.plan.specs.Contents.{Contents, Sound, count, joins}
use Rattle.planfile.specs.Files.{handler_record, handler_records, numbers, join_record, record_if_joined, joins_from, join_records, core_record, core_records, file_of}
use Rattle.planfile.specs.Theorems.{AreCodes, longest}

-- as many bytes as numbers, times the most that one has
pub at_most_each : {X : Type 0} (f : X → List ℕ) (most : ℕ) → ((x : X) → length (f x) ≤ most) → (xs : List X) → length (flat_map f xs) ≤ length xs * most
at_most_each f most each [] = omega arith
at_most_each f most each (x ∷ xs) = omega (arith, length-append (f x) (flat_map f xs), each x, at_most_each f most each xs, suc-mul (length xs) most)

pub handlers_length : (hs : List Handler) → length (flat_map handler_record hs) ≡ 10 * length hs
handlers_length [] = omega arith
handlers_length (h ∷ hs) = omega (arith, length-append (handler_record h) (flat_map handler_record hs), handlers_length hs)

pub cores_length : (c : ℕ) (codes : List ℕ) → length (core_records c codes) ≡ 3 * length codes
cores_length c [] = omega arith
cores_length c (code ∷ codes) = omega (arith, length-append (core_record c code) (core_records (suc c) codes), cores_length (suc c) codes)

pub file_length : (k : Contents) (codes : List ℕ) → length codes ≡ 8 → length (file_of k codes) ≡ 10 * count k + length (join_records k) + 25
file_length k codes eight =
    omega (
      arith,
      eight,
      length-append (handler_records k ++ join_records k ++ core_records 1 codes) (4 ∷ []),
      length-append (handler_records k ++ join_records k) (core_records 1 codes),
      length-append (handler_records k) (join_records k),
      handlers_length k.handlers,
      cores_length 1 codes,
    )

join_length : (k : Contents) (a b : ℕ) → length (record_if_joined k a b) ≤ 3
join_length k a b = elim (joins k a b) as (λ t. length (cond t (join_record a b) []) ≤ 3) [ true ↦ omega arith | false ↦ omega arith ]

pub joins_from_length : (k : Contents) (a : ℕ) → length (joins_from k a) ≤ count k * 3
joins_from_length k a = omega (arith, at_most_each (record_if_joined k a) 3 (join_length k a) (numbers k), length-range_with_len 1 (count k))

-- so long, where the handlers' numbers are bytes
pub joins_length : (k : Contents) → count k < 256 → length (join_records k) ≤ 195075
joins_length k small =
    let row : (a : ℕ) → length (joins_from k a) ≤ 765 = λ a. omega (arith, small, joins_from_length k a) in
    omega (arith, small, at_most_each (joins_from k) 765 row (numbers k), length-range_with_len 1 (count k))

-- ---- the most joins

-- how many pairs n things make
abbrev pairs : ℕ → ℕ
pairs zero = zero
pairs (suc n) = n + pairs n

pairs_grow : (d n : ℕ) → pairs n ≤ pairs (d + n)
pairs_grow zero n = le_of_eq (ap pairs (sym (zero-add n)))
pairs_grow (suc d) n = let e : suc d + n ≡ suc (d + n) = omega arith in rw e (omega (arith, pairs_grow d n))

-- of lists for every two things: those of a and b, and of b and a, are so long together, and none is of a thing and itself
module _ {X : Type 0} (bytes_of : X → X → List ℕ) (most : ℕ) (one_way : (a b : X) → length (bytes_of a b) + length (bytes_of b a) ≤ most) (none : (a : X) → length (bytes_of a a) ≡ 0) where
  both_ways : (a : X) (xs : List X) → length (flat_map (bytes_of a) xs) + length (flat_map (λ b. bytes_of b a) xs) ≤ length xs * most
  both_ways a [] = omega arith
  both_ways a (x ∷ xs) =
      omega (
        arith,
        one_way a x,
        both_ways a xs,
        length-append (bytes_of a x) (flat_map (bytes_of a) xs),
        length-append (bytes_of x a) (flat_map (λ b. bytes_of b a) xs),
        suc-mul (length xs) most,
      )

  split_rows : (f g : X → List ℕ) (xs : List X) → length (flat_map (λ a. f a ++ g a) xs) ≡ length (flat_map f xs) + length (flat_map g xs)
  split_rows f g [] = omega arith
  split_rows f g (x ∷ xs) =
      omega (
        arith,
        split_rows f g xs,
        length-append (f x ++ g x) (flat_map (λ a. f a ++ g a) xs),
        length-append (f x) (g x),
        length-append (f x) (flat_map f xs),
        length-append (g x) (flat_map g xs),
      )

  of_all_pairs : (xs : List X) → length (flat_map (λ a. flat_map (bytes_of a) xs) xs) ≤ pairs (length xs) * most
  of_all_pairs [] = omega arith
  of_all_pairs (x ∷ xs) =
      omega (
        arith,
        none x,
        both_ways x xs,
        of_all_pairs xs,
        split_rows (λ a. bytes_of a x) (λ a. flat_map (bytes_of a) xs) xs,
        length-append (bytes_of x x ++ flat_map (bytes_of x) xs) (flat_map (λ a. bytes_of a x ++ flat_map (bytes_of a) xs) xs),
        length-append (bytes_of x x) (flat_map (bytes_of x) xs),
        add-mul (length xs) (pairs (length xs)) most,
      )

module _ (k : Contents) (sound : Sound k) where
  joined_places : (a b : ℕ) → joins k a b ≡ true → k.joined (a - 1) (b - 1) ≡ true
  joined_places a b j = (and_parts (nat_le 1 b) (k.joined (a - 1) (b - 1)) (and_parts (nat_le 1 a) (nat_le 1 b && k.joined (a - 1) (b - 1)) j).1).1

  -- of two handlers at most one is joined before the other
  not_both : (a b : ℕ) → joins k a b ≡ true → joins k b a ≡ true → ⊥
  not_both a b there back = sound.no_circle (a - 1) (more (joined_places a b there) (one (joined_places b a back)))

  join_one_way : (a b : ℕ) → length (record_if_joined k a b) + length (record_if_joined k b a) ≤ 3
  join_one_way a b = go (joins k a b) (joins k b a) (not_both a b)
    where
      go : (there back : Bool) → (there ≡ true → back ≡ true → ⊥) → length (cond there (join_record a b) []) + length (cond back (join_record b a) []) ≤ 3
      go true true not = absurd (not refl refl)
      go true false not = omega arith
      go false true not = omega arith
      go false false not = omega arith

  not_to_itself : (a : ℕ) → length (record_if_joined k a a) ≡ 0
  not_to_itself a = omega (arith, join_one_way a a, three)
    where
      three : (length (record_if_joined k a a) ≡ 0) ⊎ (length (record_if_joined k a a) ≡ 3)
      three = elim (joins k a a) as (λ t. (length (cond t (join_record a a) []) ≡ 0) ⊎ (length (cond t (join_record a a) []) ≡ 3)) [ true ↦ inr refl | false ↦ inl refl ]

  -- 64 handlers make 2016 pairs
  pub most_joins : length (join_records k) ≤ 6048
  most_joins =
      let grow : pairs (count k) ≤ pairs (64 - count k + count k) = pairs_grow (64 - count k) (count k) in
      let all : 64 - count k + count k ≡ 64 = omega (arith, sound.few) in
      let few : pairs (count k) ≤ 2016 = rw all at grow in
      omega (arith, few, of_all_pairs (record_if_joined k) 3 join_one_way not_to_itself (numbers k), ap pairs (length-range_with_len 1 (count k)))

  pub none_longer : (codes : List ℕ) → AreCodes codes → length (file_of k codes) ≤ longest
  none_longer codes are = omega (arith, most_joins, sound.few, file_length k codes are.eight)
