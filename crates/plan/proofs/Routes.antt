-- Where joins lead: what the loop of `follow` keeps, and what a gathering along the joins has found.
use Rattle.std.proofs.Common.{◌≡◌, ℕ, ◌+◌, ◌-◌, ◌<◌, ◌≤◌, Bool, true, eqb, Decides, ◌≢◌, ◌⊎◌, List, [], ◌∷◌, ◌++◌, length, sym, refl, ap, ◌∙◌, subst, inl, inr, arith}
use Rattle.std.specs.List.{Contains as Has, IsAnyAnswer, range_with_len}
use Rattle.std.proofs.lemmas.Bool.{cases_eq}
use Rattle.std.proofs.lemmas.Bool.Decides.{Decides-eqb}
use Rattle.std.proofs.lemmas.List.{length_push}
use Rattle.std.proofs.lemmas.List.FromFn.{length-range_with_len, get_or-range_with_len}
use Rattle.std.proofs.lemmas.List.Elements.{contains_decides, Decides-contains, Contains-append_left, Contains-append_right, Contains-append_cases, Contains-push, Contains-push_cases}
use Rattle.gather.specs.Levels.{Walk, start, onward, Closes, Bursts}
use Rattle.gather.proofs.Growing.{once_push}
use Rattle.gather.proofs.Counting.{has_here, has_cases, once_fits}
use Rattle.plan.specs.declared.plans.joining.Along.{Along}
use Rattle.plan.specs.Joins.{joined_in, Chain, one, more}
use Rattle.plan.specs.Routes.{JoinedBefore, Led, Follows, Reaches}
use Rattle.plan.proofs.Chains.{chain_more}

-- ---- the loop of `follow`

-- `next` are the numbers below b that `from` leads to
pub record Got (table : List (List Bool)) (from : List ℕ) (b : ℕ) (next : List ℕ) : Type 0 where
  pub short : length next < b
  pub sound : (z : ℕ) → Has next z → Led table from z
  pub full : (z : ℕ) → z < b → Led table from z → Has next z

module _ {table : List (List Bool)} {from : List ℕ} {b : ℕ} {next : List ℕ} (got : Got table from b next) where
  pub got_push : Led table from b → Got table from (b + 1) (next ++ b ∷ [])
  got_push led = record {
    short = omega (arith, length_push next b, got.short);
    sound = λ z h. elim (Contains-push_cases next b z h) [ inl k ↦ got.sound z k | inr e ↦ subst (Led table from) e led ];
    full = λ z l led'.
        elim (cases_eq b z) [
          | inl e ↦ subst (Has (next ++ b ∷ [])) e (Contains-push next b)
          | inr ne ↦ Contains-append_left next (b ∷ []) z (got.full z (let d : z ≢ b = λ w. ne (sym w) in omega (arith, l, d)) led')
        ];
  }

  pub got_skip : (Led table from b → ⊥) → Got table from (b + 1) next
  got_skip lacks = record {
    short = omega (arith, got.short);
    sound = got.sound;
    full = λ z l led.
        elim (cases_eq b z) [
          | inl e ↦ absurd (lacks (subst (Led table from) (sym e) led))
          | inr ne ↦ got.full z (let d : z ≢ b = λ w. ne (sym w) in omega (arith, l, d)) led
        ];
  }

-- ---- what a walk along the joins has seen

-- a join of two places, by their numbers
by_number : (table : List (List Bool)) (a b : ℕ) → joined_in table a b ≡ true → JoinedBefore table (a + 1) (b + 1)
by_number table a b j = (omega arith, omega arith, ap (λ i. joined_in table i (b + 1 - 1)) (add-sub a) ∙ ap (joined_in table a) (add-sub b) ∙ j)
  where
    add-sub : (x : ℕ) → x + 1 - 1 ≡ x
    add-sub x = omega arith

-- the numbers 1 to n are n
has_number : (n x : ℕ) → 1 ≤ x → x ≤ n → Has (range_with_len 1 n) x
has_number n x low high =
    let lt : x - 1 < n = omega arith in
    (x - 1, omega (arith, lt, length-range_with_len 1 n), get_or-range_with_len 1 n (x - 1) x lt ∙ omega arith)

-- how the rule of `leads` goes on
abbrev shows : Along → List ℕ
shows s = s.level.items

abbrev table_of : Along → List (List Bool)
table_of s = s.joins.now

abbrev steps : Along → Along → Type 0
steps s t = (table_of t ≡ table_of s) × Follows (table_of s) (shows s) (shows t)

walk_table : {s t : Along} {n : ℕ} {seen : List ℕ} → Walk shows steps s n seen t → table_of t ≡ table_of s
walk_table start = refl
walk_table (onward {s} {t} {u} w f st) = st.0 ∙ walk_table w

-- a property that the joins hand on holds of all that was seen
walk_all : (P : ℕ → Type 0) {s t : Along} {n : ℕ} {seen : List ℕ} → ((x y : ℕ) → P x → JoinedBefore (table_of s) x y → P y)
    → ((x : ℕ) → Has (shows s) x → P x) → Walk shows steps s n seen t → ((x : ℕ) → Has seen x → P x) × ((x : ℕ) → Has (shows t) x → P x)
walk_all P on first start = (λ x h. absurd (omega (arith, h.1)), first)
walk_all P on first (onward {s} {t} {u} {level} {seen} w f st) =
    let ih = walk_all P on first w in (
      λ x h. elim (Contains-append_cases seen (shows t) x h) [ inl k ↦ ih.0 x k | inr k ↦ ih.1 x k ],
      λ x h.
          let led = st.1.sound x h in
          on led.1 x (ih.1 led.1 (led.0, led.2, led.3)) (subst (λ js. JoinedBefore js led.1 x) (walk_table w) led.4),
    )

-- where a join leads from what was seen is seen too, or is on the level at hand
walk_full : {s t : Along} {n : ℕ} {seen : List ℕ} → Walk shows steps s n seen t → (x y : ℕ) → y ≤ 64 → Has seen x → JoinedBefore (table_of s) x y → Has seen y ⊎ Has (shows t) y
walk_full start x y le h j = absurd (omega (arith, h.1))
walk_full (onward {s} {t} {u} {level} {seen} w f st) x y le h j =
    elim (Contains-append_cases seen (shows t) x h) [
      | inl k ↦ (elim (walk_full w x y le k j) [ inl m ↦ inl (Contains-append_left seen (shows t) y m) | inr m ↦ inl (Contains-append_right seen (shows t) y m) ])
      | inr k ↦ inr (st.1.full y le (k.0, x, k.1, k.2, subst (λ js. JoinedBefore js x y) (sym (walk_table w)) j))
    ]

walk_first : {s t : Along} {n : ℕ} {seen : List ℕ} → Walk shows steps s n seen t → (x : ℕ) → Has (shows s) x → Has seen x ⊎ Has (shows t) x
walk_first start x h = inr h
walk_first (onward {s} {t} {u} {level} {seen} w f st) x h =
    elim (walk_first w x h) [ inl k ↦ inl (Contains-append_left seen (shows t) x k) | inr k ↦ inl (Contains-append_right seen (shows t) x k) ]

-- ---- what a gathering along the joins has found

module _ (s : Along) (from : ℕ) (is : shows s ≡ from ∷ []) (low : 1 ≤ from) (high : from ≤ 64) (inside : (x y : ℕ) → joined_in (table_of s) x y ≡ true → y < 64) where
  -- a number from 1 on, to which `from` leads
  abbrev Met : ℕ → Type 0
  Met x = (1 ≤ x) × Reaches (table_of s) from x

  first : (x : ℕ) → Has (shows s) x → from ≡ x
  first x h = elim (has_cases from x [] (subst (λ l. Has l x) is h)) [ inl e ↦ e | inr m ↦ absurd (omega (arith, m.1)) ]

  begun : Has (shows s) from
  begun = subst (λ l. Has l from) (sym is) (has_here from [])

  met_first : (x : ℕ) → Has (shows s) x → Met x
  met_first x h = let e = first x h in (omega (arith, low, e), inl e)

  met_more : (x y : ℕ) → Met x → JoinedBefore (table_of s) x y → Met y
  met_more x y m j =
      elim m.1 [
        | inl e ↦ (j.1, inr (one (ap (λ z. joined_in (table_of s) (z - 1) (y - 1)) e ∙ j.2)))
        | inr c ↦ (j.1, inr (chain_more c j.2))
      ]

  small_first : (x : ℕ) → Has (shows s) x → (1 ≤ x) × (x ≤ 64)
  small_first x h = let e = first x h in (omega (arith, low, e), omega (arith, high, e))

  small : (y : ℕ) → (x : ℕ) → JoinedBefore (table_of s) x y → (1 ≤ y) × (y ≤ 64)
  small y x j = (j.1, omega (arith, j.1, inside (x - 1) (y - 1) j.2))

  -- a walk that closed has found all that `from` leads to, and no other
  module _ {t : Along} {n : ℕ} {all : List ℕ} (w : Closes shows steps s n t all) where
    closed_sound : (x : ℕ) → Has all x → Met x
    closed_sound x h = (walk_all Met met_more met_first w.walk).0 x (w.collects.only x h)

    closed_has : (x : ℕ) → Has w.seen x ⊎ Has (shows t) x → Has all x
    closed_has x (inl k) = w.collects.each x k
    closed_has x (inr k) = w.collects.each x (w.old x k)

    closed_step : (x y : ℕ) → Has all x → JoinedBefore (table_of s) x y → Has all y
    closed_step x y h j = closed_has y (walk_full w.walk x y (small y x j).1 (w.collects.only x h) j)

    -- chains go by places, and what was found by numbers
    closed_chain : {i j : ℕ} → Chain (joined_in (table_of s)) i j → Has all (i + 1) → Has all (j + 1)
    closed_chain (one {a} {b} q) h = closed_step (a + 1) (b + 1) h (by_number (table_of s) a b q)
    closed_chain (more {a} {b} q p) h = closed_chain p (closed_step (a + 1) (b + 1) h (by_number (table_of s) a b q))

    closed_full : (x : ℕ) → 1 ≤ x → Reaches (table_of s) from x → Has all x
    closed_full x some (inl e) = subst (Has all) e (closed_has from (walk_first w.walk from begun))
    closed_full x some (inr p) =
        let here : Has all (from - 1 + 1) = subst (Has all) (omega (arith, low)) (closed_has from (walk_first w.walk from begun)) in
        let there : Has all (x - 1 + 1) = closed_chain p here in
        subst (Has all) (omega (arith, some)) there

    pub closing : (to : ℕ) (r : Bool) → 1 ≤ to → IsAnyAnswer (λ y t. eqb y to ≡ t) all r → Decides r (Reaches (table_of s) from to)
    closing to r some c =
        let d = Decides-contains all to r (contains_decides eqb Decides-eqb all to r c) in (
          λ said. (closed_sound to (d.0 said)).1,
          λ l. d.1 (closed_full to some l),
        )

  -- 64 rows always have room: there are only the numbers 1 to 64
  pub no_burst : {t : Along} {n : ℕ} {all : List ℕ} → length all ≡ 64 → Bursts shows steps s n t all → ⊥
  no_burst {t} {n} {all} len w =
      let a = walk_all (λ x. (1 ≤ x) × (x ≤ 64)) (λ x y q j. small y x j) small_first w.walk in
      let each : (x : ℕ) → Has all x → (1 ≤ x) × (x ≤ 64) = λ x h. elim (w.only x h) [ inl k ↦ a.0 x k | inr k ↦ a.1 x k ] in
      let number : (x : ℕ) → (1 ≤ x) × (x ≤ 64) → Has (range_with_len 1 64) x = λ x q. has_number 64 x q.0 q.1 in
      let in_all : (x : ℕ) → Has (all ++ w.extra ∷ []) x → Has (range_with_len 1 64) x = λ x h.
      elim (Contains-push_cases all w.extra x h) [ inl k ↦ number x (each x k) | inr e ↦ subst (Has (range_with_len 1 64)) e (number w.extra (a.1 w.extra w.there)) ] in
      let fits : length (all ++ w.extra ∷ []) ≤ length (range_with_len 1 64) = once_fits (all ++ w.extra ∷ []) (range_with_len 1 64) (once_push all w.extra w.once w.lacks) in_all in
      omega (arith, fits, length_push all w.extra, length-range_with_len 1 64, len)
