-- What a plan's fields say after a handler is added or seated anew, or two are joined.
use Rattle.std.proofs.Common.{◌≡◌, ℕ, suc, ◌+◌, ◌<◌, max, Bool, true, false, ◌&&◌, ◌||◌, eqb, ◌≢◌, ◌⊎◌, List, [], ◌∷◌, ◌++◌, length, get_or, take, set, sym, ap, ◌∙◌, inl, inr, arith}
use mathlib.Core.Bool.{or-false}
use Rattle.std.proofs.lemmas.Bool.{cases_eq, eq-eqb, ne_eqb, eqb-true, or_cases, or_right, and_parts, and_from, and_left, and_right}
use Rattle.std.proofs.Math.Seq.{take-set-lt}
use Rattle.std.proofs.lemmas.List.{get_or-set_same, get_or-set_other, get_or-take, get_or_default, take_more_set, length-set}
use Rattle.std.proofs.lemmas.List.Sums.{fold_push}
use Rattle.plan.specs.Multiples.{lcm}
use Rattle.plan.specs.declared.handlers.Handler.{Handler}
use Rattle.plan.specs.Rows.{blank, IsInRange, AllInRange, BlankFrom, round_of, settling_of}
use Rattle.plan.specs.Joins.{joined_in, linked, Inside, OnePeriod, OneOffset, NoCircle, Wide}
use Rattle.plan.proofs.Chains.{Leads, still_straight}
use Rattle.plan.proofs.Rounds.{folded_set}

-- ---- one row written

module _ (hs : List Handler) (i : ℕ) (h : Handler) (fits : i < length hs) (n : ℕ) where
  pub set_ranges : ((a : ℕ) → a < n → a ≢ i → IsInRange (get_or hs a blank)) → IsInRange h → AllInRange n (set hs i h)
  set_ranges all here a lt =
      elim (cases_eq a i) [
        | inl e ↦ rw e (rw (get_or-set_same hs i h blank fits) here)
        | inr ne ↦ rw (get_or-set_other hs i a h blank ne) (all a lt ne)
      ]

  pub set_blanks : i < n → BlankFrom n hs → BlankFrom n (set hs i h)
  set_blanks lt all a ge = let ne : a ≢ i = λ e. omega arith in get_or-set_other hs i a h blank ne ∙ all a ge

-- ---- one handler more

module _ (n : ℕ) (hs : List Handler) (h : Handler) (fits : n < length hs) where
  pub grow_rows : take (n + 1) (set hs n h) ≡ take n hs ++ h ∷ []
  grow_rows = take_more_set hs n h fits

  pub grow_ranges : AllInRange n hs → IsInRange h → AllInRange (n + 1) (set hs n h)
  grow_ranges all here = set_ranges hs n h fits (n + 1) (λ a lt ne. all a (omega arith)) here

  pub grow_blanks : BlankFrom n hs → BlankFrom (n + 1) (set hs n h)
  grow_blanks all = set_blanks hs n h fits (n + 1) (omega arith) (λ a ge. all a (omega arith))

  pub grow_round : (m : ℕ) → m ≡ round_of (take n hs ++ h ∷ []) → m ≡ round_of (take (n + 1) (set hs n h))
  grow_round m e = e ∙ ap round_of (sym grow_rows)

  pub grow_settling : (m : ℕ) → m ≡ settling_of (take n hs) → max m h.offset ≡ settling_of (take (n + 1) (set hs n h))
  grow_settling m e = ap (λ x. max x h.offset) e ∙ sym (fold_push (λ m x. max m x.offset) 0 (take n hs) h) ∙ ap settling_of (sym grow_rows)

  module _ (table : List (List Bool)) (inside : Inside n table) where
    same : (a : ℕ) → a < n → get_or (set hs n h) a blank ≡ get_or hs a blank
    same a lt = let ne : a ≢ n = λ e. omega arith in get_or-set_other hs n a h blank ne

    pub grow_inside : Inside (n + 1) table
    grow_inside a b j = (omega (arith, (inside a b j).0), omega (arith, (inside a b j).1))

    -- a field that joined handlers have alike
    grow_field : (f : Handler → ℕ) → ((a b : ℕ) → joined_in table a b ≡ true → f (get_or hs a blank) ≡ f (get_or hs b blank))
        → (a b : ℕ) → joined_in table a b ≡ true → f (get_or (set hs n h) a blank) ≡ f (get_or (set hs n h) b blank)
    grow_field f all a b j = ap f (same a (inside a b j).0) ∙ all a b j ∙ sym (ap f (same b (inside a b j).1))

    pub grow_periods : OnePeriod hs table → OnePeriod (set hs n h) table
    grow_periods = grow_field (λ x. x.period)

    pub grow_offsets : OneOffset hs table → OneOffset (set hs n h) table
    grow_offsets = grow_field (λ x. x.offset)

-- ---- one handler on another core

module _ (hs : List Handler) (i : ℕ) (h : Handler) (fits : i < length hs) where
  -- a field that does not change
  pub seat_field : (f : Handler → ℕ) → f h ≡ f (get_or hs i blank) → (a : ℕ) → f (get_or (set hs i h) a blank) ≡ f (get_or hs a blank)
  seat_field f e a =
      elim (cases_eq a i) [
        | inl q ↦ ap (λ x. f (get_or (set hs i h) x blank)) q ∙ ap f (get_or-set_same hs i h blank fits) ∙ e ∙ ap (λ x. f (get_or hs x blank)) (sym q)
        | inr ne ↦ ap f (get_or-set_other hs i a h blank ne)
      ]

  module _ (n : ℕ) (lt : i < n) where
    pub seat_rows : take n (set hs i h) ≡ set (take n hs) i h
    seat_rows = take-set-lt n hs i h lt

    at_take : get_or (take n hs) i h ≡ get_or hs i blank
    at_take = get_or-take n hs i h lt ∙ get_or_default hs i h blank fits

    pub seat_round : h.period ≡ (get_or hs i blank).period → round_of (take n (set hs i h)) ≡ round_of (take n hs)
    seat_round e = ap round_of seat_rows ∙ folded_set (λ m x. lcm m x.period) 1 (take n hs) i h (λ m. ap (lcm m) (e ∙ ap (λ (x : Handler). x.period) (sym at_take)))

    pub seat_settling : h.offset ≡ (get_or hs i blank).offset → settling_of (take n (set hs i h)) ≡ settling_of (take n hs)
    seat_settling e = ap settling_of seat_rows ∙ folded_set (λ m x. max m x.offset) 0 (take n hs) i h (λ m. ap (max m) (e ∙ ap (λ (x : Handler). x.offset) (sym at_take)))

-- ---- one join more

module _ (table : List (List Bool)) (i j : ℕ) (tall : length table ≡ 64) (wide : Wide table) (il : i < 64) (jl : j < 64) where
  row_is : get_or (linked table i j) i [] ≡ set (get_or table i []) j true
  row_is = get_or-set_same table i (set (get_or table i []) j true) [] (omega (arith, tall))

  pub link_is : (x y : ℕ) → joined_in (linked table i j) x y ≡ (joined_in table x y || (eqb x i && eqb y j))
  link_is x y =
      elim (cases_eq x i) [
        | inl e ↦
            (elim (cases_eq y j) [
              | inl f ↦
                  (let here : joined_in (linked table i j) x y ≡ true =
                  ap (λ a. joined_in (linked table i j) a y) e ∙ ap (λ r. get_or r y false) row_is ∙ ap (λ b. get_or (set (get_or table i []) j true) b false) f
                  ∙ get_or-set_same (get_or table i []) j true false (omega (arith, wide i il)) in
                  here ∙ sym (or_right (joined_in table x y) (eqb x i && eqb y j) (and_from (eqb x i) (eqb y j) (eq-eqb x i e) (eq-eqb y j f))))
              | inr f ↦
                  (let same : joined_in (linked table i j) x y ≡ joined_in table x y =
                  ap (λ a. joined_in (linked table i j) a y) e ∙ ap (λ r. get_or r y false) row_is ∙ get_or-set_other (get_or table i []) j y true false f
                  ∙ ap (λ a. joined_in table a y) (sym e) in
                  same ∙ sym (ap (λ t. joined_in table x y || t) (and_right (eqb x i) (eqb y j) (ne_eqb y j f)) ∙ or-false (joined_in table x y)))
            ])
        | inr e ↦
            (let same : joined_in (linked table i j) x y ≡ joined_in table x y = ap (λ r. get_or r y false) (get_or-set_other table i x (set (get_or table i []) j true) [] e) in
            same ∙ sym (ap (λ t. joined_in table x y || t) (and_left (eqb x i) (eqb y j) (ne_eqb x i e)) ∙ or-false (joined_in table x y)))
      ]

  link_only : (x y : ℕ) → joined_in (linked table i j) x y ≡ true → (joined_in table x y ≡ true) ⊎ ((x ≡ i) × (y ≡ j))
  link_only x y h =
      elim (or_cases (joined_in table x y) (eqb x i && eqb y j) (sym (link_is x y) ∙ h)) [
        | inl k ↦ inl k
        | inr k ↦ (let q = and_parts (eqb x i) (eqb y j) k in inr (eqb-true x i q.0, eqb-true y j q.1))
      ]

  pub link_wide : Wide (linked table i j)
  link_wide a al =
      elim (cases_eq a i) [
        | inl e ↦ ap (λ a. length (get_or (linked table i j) a [])) e ∙ ap length row_is ∙ length-set (get_or table i []) j true ∙ wide i il
        | inr e ↦ ap length (get_or-set_other table i a (set (get_or table i []) j true) [] e) ∙ wide a al
      ]

  pub link_inside : (n : ℕ) → i < n → j < n → Inside n table → Inside n (linked table i j)
  link_inside n a b inside x y h =
      elim (link_only x y h) [ inl k ↦ inside x y k | inr q ↦ (omega (arith, a, q.0), omega (arith, b, q.1)) ]

  -- a field that the two have alike
  link_field : (f : Handler → ℕ) (hs : List Handler) → f (get_or hs i blank) ≡ f (get_or hs j blank) → ((a b : ℕ) → joined_in table a b ≡ true → f (get_or hs a blank) ≡ f (get_or hs b blank))
      → (a b : ℕ) → joined_in (linked table i j) a b ≡ true → f (get_or hs a blank) ≡ f (get_or hs b blank)
  link_field f hs e all x y h =
      elim (link_only x y h) [
        | inl k ↦ all x y k
        | inr q ↦ ap (λ a. f (get_or hs a blank)) q.0 ∙ e ∙ ap (λ a. f (get_or hs a blank)) (sym q.1)
      ]

  pub link_periods : (hs : List Handler) → (get_or hs i blank).period ≡ (get_or hs j blank).period → OnePeriod hs table → OnePeriod hs (linked table i j)
  link_periods = link_field (λ h. h.period)

  pub link_offsets : (hs : List Handler) → (get_or hs i blank).offset ≡ (get_or hs j blank).offset → OneOffset hs table → OneOffset hs (linked table i j)
  link_offsets = link_field (λ h. h.offset)

  pub link_straight : NoCircle (joined_in table) → ¬ Leads (joined_in table) j i → NoCircle (joined_in (linked table i j))
  link_straight = still_straight (joined_in table) (joined_in (linked table i j)) i j link_only

  -- by numbers: a and b are one more than i and j
  pub link_number : (a b : ℕ) → a ≡ suc i → b ≡ suc j → (x y : ℕ) → joined_in (linked table i j) x y ≡ (joined_in table x y || (eqb (suc x) a && eqb (suc y) b))
  link_number a b ea eb x y = link_is x y ∙ ap (λ t. joined_in table x y || t) (ap (λ t. t && eqb y j) (same x i a ea) ∙ ap (λ t. eqb (suc x) a && t) (same y j b eb))
    where
      same : (x i a : ℕ) → a ≡ suc i → eqb x i ≡ eqb (suc x) a
      same x i a e = elim (cases_eq x i) [ inl q ↦ eq-eqb x i q ∙ sym (eq-eqb (suc x) a (omega arith)) | inr ne ↦ ne_eqb x i ne ∙ sym (ne_eqb (suc x) a (λ q. ne (omega arith))) ]
