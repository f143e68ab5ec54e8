-- Lines that are added to a text, number by number.
use Rattle.std.proofs.Common.{◌≡◌, ℕ, ◌+◌, ◌<◌, ◌≤◌, List, ◌++◌, length, length-append, refl, sym, ap, ◌∙◌, le_of_eq, append_assoc, append-nil, arith}
use Rattle.planfile.proofs.WritingSteps.{bytes_below, bytes, one_more, all_below, Counted, counted_within}

module _ (line_of : ℕ → List ℕ) (count : ℕ) where
  -- those of the numbers below n are added
  pub record Added (was : List ℕ) (n : ℕ) (is : List ℕ) : Type 0 where
    pub some : 1 ≤ n
    pub text : is ≡ was ++ bytes_below line_of count n

  pub added_none : (was : List ℕ) → Added was 1 was
  added_none was = record { some = omega arith; text = sym (append-nil was) }

  module _ (was : List ℕ) (n : ℕ) (is now : List ℕ) (added : Added was n is) (more : now ≡ is ++ line_of n) where
    pub added_next : n ≤ count → Added was (n + 1) now
    added_next inside = record {
      some = omega arith;
      text =
          more ∙ ap (λ l. l ++ line_of n) added.text ∙ append_assoc was (bytes_below line_of count n) (line_of n)
          ∙ ap (λ l. was ++ l) (one_more line_of count n added.some inside);
    }

  -- there is room for one more, where there is room for all
  pub room_here : (was : List ℕ) (most : ℕ) (all : List ℕ) → bytes line_of count ≡ all → length was + length all ≤ most
      → (n : ℕ) (is : List ℕ) → Added was n is → n ≤ count → length is + length (line_of n) ≤ most
  room_here was most all whole room n is added inside =
      let counted : Counted line_of count n (length (bytes_below line_of count n)) = record { some = added.some; sum = refl } in
      omega (
        arith,
        room,
        counted_within line_of count n (length (bytes_below line_of count n)) counted inside,
        ap length whole,
        ap length added.text,
        length-append was (bytes_below line_of count n),
      )

  pub added_all : (was : List ℕ) (n : ℕ) (is : List ℕ) → Added was n is → count < n → is ≡ was ++ bytes line_of count
  added_all was n is added past = added.text ∙ ap (λ l. was ++ l) (all_below line_of count n added.some past)

  pub added_last : (was : List ℕ) (n : ℕ) (is now : List ℕ) → Added was n is → now ≡ is ++ line_of n → n ≡ count → now ≡ was ++ bytes line_of count
  added_last was n is now added more last = added_all was (n + 1) now (added_next was n is now added more (le_of_eq last)) (omega (arith, last))
