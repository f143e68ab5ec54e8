-- Bytes that are put into a buffer one after another.
use Rattle.std.proofs.Common.{◌≡◌, ℕ, ◌+◌, ◌-◌, ◌<◌, ◌≤◌, List, [], ◌∷◌, ◌++◌, length, get_or, take, drop, flat_map, sym, ap, ap₂, subst, le_of_eq, ◌∙◌, append_assoc, append-nil, length-append, length-drop, length-take-le, take-append-drop, take_at, drop_at, drop-drop, arith}
use Rattle.std.proofs.lemmas.List.{take_all, take_more, flat_map_more}
use Rattle.std.proofs.lemmas.List.Folds.{length-flat_map-take}
use Rattle.std.proofs.lemmas.List.FromFn.{length-range_with_len, get_or-range_with_len}
use Rattle.std.specs.List.{range_with_len}
use Rattle.planfile.specs.Writes.{Puts}

pub puts_none : (was : List ℕ) (place : ℕ) → Puts was place [] place was
puts_none was place = record {
  behind = omega arith;
  leaves = sym (ap (λ l. l ++ drop (place + 0) was) (append-nil (take place was)) ∙ ap (λ n. take place was ++ drop n was) (omega arith) ∙ take-append-drop place was);
}

module _ (was : List ℕ) (place : ℕ) (xs : List ℕ) (next : ℕ) (mid : List ℕ) (puts : Puts was place xs next mid) (room : place + length xs ≤ length was) where
  front_length : length (take place was ++ xs) ≡ next
  front_length = omega (arith, puts.behind, room, length-append (take place was) xs, length-take-le place was (omega (arith, room)))

  pub length_kept : length mid ≡ length was
  length_kept =
      ap length puts.leaves
      ∙ omega (arith, puts.behind, room, front_length, length-append (take place was ++ xs) (drop (place + length xs) was), length-drop (place + length xs) was)

  -- more bytes, put behind them
  pub puts_on : (ys : List ℕ) (after : ℕ) (is : List ℕ) → Puts mid next ys after is → Puts was place (xs ++ ys) after is
  puts_on ys after is more =
      let front : take next mid ≡ take place was ++ xs = ap (take next) puts.leaves ∙ take_at (take place was ++ xs) (drop (place + length xs) was) next front_length in
      let back : drop next mid ≡ drop (place + length xs) was = ap (drop next) puts.leaves ∙ drop_at (take place was ++ xs) (drop (place + length xs) was) next front_length in
      let sum : place + length xs + length ys ≡ place + length (xs ++ ys) = omega (arith, length-append xs ys) in
      let rest : drop (next + length ys) mid ≡ drop (place + length (xs ++ ys)) was =
      sym (drop-drop (length ys) next mid) ∙ ap (drop (length ys)) back ∙ drop-drop (length ys) (place + length xs) was ∙ ap (λ n. drop n was) sum in
      record {
        behind = omega (arith, more.behind, puts.behind, sum);
        leaves = more.leaves ∙ ap₂ (λ a b. a ++ ys ++ b) front rest ∙ ap (λ l. l ++ drop (place + length (xs ++ ys)) was) (append_assoc (take place was) xs ys);
      }

-- four lists, put one after another
pub puts_four : (was a b c d : List ℕ) → length (a ++ b ++ c ++ d) ≤ length was → (i j k l : ℕ) (in_a in_b in_c in_d : List ℕ)
    → Puts was 0 a i in_a → Puts in_a i b j in_b → Puts in_b j c k in_c → Puts in_c k d l in_d → Puts was 0 (a ++ b ++ c ++ d) l in_d
puts_four was a b c d room i j k l in_a in_b in_c in_d pa pb pc pd =
    let two = length-append a b in
    let three = length-append (a ++ b) c in
    let four = length-append (a ++ b ++ c) d in
    let ab = puts_on was 0 a i in_a pa (omega (arith, room, two, three, four)) b j in_b pb in
    let abc = puts_on was 0 (a ++ b) j in_b ab (omega (arith, room, three, four)) c k in_c pc in
    puts_on was 0 (a ++ b ++ c) k in_c abc (omega (arith, room, four)) d l in_d pd

-- ---- loops over the numbers from 1 to count, and the bytes of each

module _ (bytes_of : ℕ → List ℕ) (count : ℕ) where
  -- the bytes of the numbers below n
  abbrev pub bytes_below : ℕ → List ℕ
  bytes_below n = flat_map bytes_of (take (n - 1) (range_with_len 1 count))

  -- the bytes of all numbers
  abbrev pub bytes : List ℕ
  bytes = flat_map bytes_of (range_with_len 1 count)

  module _ (n : ℕ) (some : 1 ≤ n) where
    module _ (inside : n ≤ count) where
      inside_list : n - 1 < length (range_with_len 1 count)
      inside_list = omega (arith, inside, some, length-range_with_len 1 count)

      here : get_or (range_with_len 1 count) (n - 1) 0 ≡ n
      here = get_or-range_with_len 1 count (n - 1) 0 (omega (arith, inside, some)) ∙ omega (arith, some)

      one_more_fits : length (bytes_below n) + length (bytes_of n) ≤ length bytes
      one_more_fits = rw here at (length-flat_map-take bytes_of (range_with_len 1 count) (n - 1) 0 inside_list)

      pub one_more : bytes_below n ++ bytes_of n ≡ bytes_below (n + 1)
      one_more =
          flat_map_more bytes_of [] (take (n - 1) (range_with_len 1 count)) n
          ∙ ap (λ m. flat_map bytes_of (take (n - 1) (range_with_len 1 count) ++ m ∷ [])) (sym here)
          ∙ ap (flat_map bytes_of) (sym (take_more (range_with_len 1 count) (n - 1) 0 inside_list))
          ∙ ap (λ m. flat_map bytes_of (take m (range_with_len 1 count))) (omega (arith, some))

    pub all_below : count < n → bytes_below n ≡ bytes
    all_below past = ap (flat_map bytes_of) (take_all (n - 1) (range_with_len 1 count) (omega (arith, past, length-range_with_len 1 count)))

  -- ---- a loop that puts them

  -- those of the numbers below n are put
  pub record Below (was : List ℕ) (place n next : ℕ) (is : List ℕ) : Type 0 where
    pub some : 1 ≤ n
    pub puts : Puts was place (bytes_below n) next is

  module _ (all : List ℕ) (whole : bytes ≡ all) (was : List ℕ) (place : ℕ) (room : place + length all ≤ length was) where
    module _ (n next : ℕ) (is : List ℕ) (below : Below was place n next is) where
      module _ (inside : n ≤ count) where
        room_before : place + length (bytes_below n) ≤ length was
        room_before = omega (arith, room, one_more_fits n below.some inside, ap length whole)

        pub room_here : next + length (bytes_of n) ≤ length is
        room_here = omega (arith, room, one_more_fits n below.some inside, ap length whole, below.puts.behind, length_kept _ _ _ _ _ below.puts room_before)

        pub below_next : (after : ℕ) (now : List ℕ) → Puts is next (bytes_of n) after now → Below was place (n + 1) after now
        below_next after now puts = record {
          some = omega arith;
          puts = subst (λ l. Puts was place l after now) (one_more n below.some inside) (puts_on _ _ _ _ _ below.puts room_before _ _ _ puts);
        }

      pub below_all : count < n → Puts was place all next is
      below_all past = subst (λ l. Puts was place l next is) (all_below n below.some past ∙ whole) below.puts

    -- those of the last number are put
    pub below_last : (n next : ℕ) (is : List ℕ) → Below was place n next is → n ≡ count → (after : ℕ) (now : List ℕ) → Puts is next (bytes_of n) after now → Puts was place all after now
    below_last n next is below last after now puts = below_all (n + 1) after now (below_next n next is below (le_of_eq last) after now puts) (omega (arith, last))

  -- ---- a loop that adds up how many they are

  -- those of the numbers below n are counted
  pub record Counted (n so_far : ℕ) : Type 0 where
    pub some : 1 ≤ n
    pub sum : so_far ≡ length (bytes_below n)

  module _ (n so_far : ℕ) (counted : Counted n so_far) where
    pub counted_within : n ≤ count → so_far + length (bytes_of n) ≤ length bytes
    counted_within inside = omega (arith, counted.sum, one_more_fits n counted.some inside)

    pub counted_next : n ≤ count → Counted (n + 1) (so_far + length (bytes_of n))
    counted_next inside = record {
      some = omega arith;
      sum = omega (arith, counted.sum, length-append (bytes_below n) (bytes_of n), ap length (one_more n counted.some inside));
    }

    pub counted_last : n ≡ count → so_far + length (bytes_of n) ≡ length bytes
    counted_last last = (counted_next (le_of_eq last)).sum ∙ ap length (all_below (n + 1) (omega arith) (omega (arith, last)))
