-- What a file holds of a plan with one handler, one join or one code more.
use Rattle.std.proofs.Common.{◌≡◌, ℕ, zero, suc, ◌+◌, ◌-◌, ◌<◌, ◌≤◌, Bool, true, false, cond, ◌&&◌, List, [], ◌∷◌, ◌++◌, length, sym, refl, ap, ap₂, ◌∙◌, inl, inr, arith}
use Rattle.std.specs.Prelude.{◌==◌}
use Rattle.std.specs.List.{flat_map, range_with_len}
use Rattle.std.proofs.lemmas.Bool.{cases_eq, eq-eqb, eqb-true, or_cases, or_left, or_right, and_parts, and_from}
use Rattle.std.proofs.lemmas.List.{append_assoc, append-nil}
use Rattle.std.proofs.lemmas.Grind.{flat_map-append}
use Rattle.plan.specs.declared.handlers.Handler.{Handler}
use Rattle.plan.specs.Contents.{Contents, count, Known}
use Rattle.plan.specs.Calls.{added, with_join}
use Rattle.planfile.specs.Files.{handler_record, join_record, core_record, handler_records, record_if_joined, joins_from, join_records, core_records}
use Rattle.planfile.proofs.FiledRecords.{Sooner}
use Rattle.planfile.proofs.FiledTurns.{joins_is, both_or_none}

pub handlers_push : (k : Contents) (h : Handler) → handler_records (added k h) ≡ handler_records k ++ handler_record h
handlers_push k h = flat_map-append handler_record k.handlers (h ∷ [])

pub cores_push : (c : ℕ) (codes : List ℕ) (code : ℕ) → core_records c (codes ++ code ∷ []) ≡ core_records c codes ++ core_record (c + length codes) code
cores_push c [] code = let e : c ≡ c + 0 = omega arith in ap (λ n. core_record n code) e
cores_push c (x ∷ codes) code =
    let e : suc c + length codes ≡ c + suc (length codes) = omega arith in
    ap (λ l. core_record c x ++ l) (cores_push (suc c) codes code ∙ ap (λ n. core_records (suc c) codes ++ core_record n code) e)

-- ---- lists by numbers

flat_none : (f : ℕ → List ℕ) (n a : ℕ) → ((x : ℕ) → a ≤ x → f x ≡ []) → flat_map f (range_with_len a n) ≡ []
flat_none f zero a none = refl
flat_none f (suc n) a none = ap₂ (λ l r. l ++ r) (none a (omega arith)) (flat_none f n (a + 1) (λ x l. none x (omega (arith, l))))

module _ (f g : ℕ → List ℕ) where
  flat_same : (n a : ℕ) → ((x : ℕ) → a ≤ x → g x ≡ f x) → flat_map g (range_with_len a n) ≡ flat_map f (range_with_len a n)
  flat_same zero a same = refl
  flat_same (suc n) a same = ap₂ (λ l r. l ++ r) (same a (omega arith)) (flat_same n (a + 1) (λ x l. same x (omega (arith, l))))

  -- the same up to c, more at c, and nothing behind it
  record Grows (c : ℕ) (more : List ℕ) : Type 0 where
    before : (x : ℕ) → 1 ≤ x → x < c → g x ≡ f x
    here : g c ≡ f c ++ more
    none : (x : ℕ) → c < x → f x ≡ []
    still : (x : ℕ) → c < x → g x ≡ []

  flat_grows : (c : ℕ) (more : List ℕ) → Grows c more → (n a : ℕ) → 1 ≤ a → a ≤ c → c < a + n
      → flat_map g (range_with_len a n) ≡ flat_map f (range_with_len a n) ++ more
  flat_grows c more grows zero a la le lt = absurd (omega (arith, le, lt))
  flat_grows c more grows (suc n) a la le lt =
      elim (cases_eq a c) [
        | inl e ↦
            (let others : flat_map f (range_with_len (a + 1) n) ≡ [] = flat_none f n (a + 1) (λ x l. grows.none x (omega (arith, l, e))) in
            let news : flat_map g (range_with_len (a + 1) n) ≡ [] = flat_none g n (a + 1) (λ x l. grows.still x (omega (arith, l, e))) in
            rw (others, news) (append-nil (g a) ∙ ap g e ∙ grows.here ∙ ap (λ l. l ++ more) (ap f (sym e) ∙ sym (append-nil (f a)))))
        | inr ne ↦
            ap₂ (λ l r. l ++ r) (grows.before a la (omega (arith, le, ne))) (flat_grows c more grows n (a + 1) (omega arith) (omega (arith, le, ne)) (omega (arith, lt)))
            ∙ sym (append_assoc (f a) (flat_map f (range_with_len (a + 1) n)) more)
      ]

-- ---- joins

pub no_joins : (k : Contents) → ((x y : ℕ) → k.joined x y ≡ false) → join_records k ≡ []
no_joins k none = flat_none (joins_from k) (count k) 1 (λ a la. flat_none (record_if_joined k a) (count k) 1 (λ b lb. cell a b la lb))
  where
    cell : (a b : ℕ) → 1 ≤ a → 1 ≤ b → record_if_joined k a b ≡ []
    cell a b la lb = ap (λ t. cond t (join_record a b) []) (joins_is k a b la lb ∙ none (a - 1) (b - 1))

-- the join of a before b comes after all joins of k
abbrev pub Last : Contents → ℕ → ℕ → Type 0
Last k a b = (x y : ℕ) → k.joined x y ≡ true → Sooner (suc x) (suc y) a b

module _ (k : Contents) (a b : ℕ) (la : 1 ≤ a) (lb : 1 ≤ b) (last : Last k a b) where
  abbrev next : Contents
  next = with_join k a b

  module _ (x y : ℕ) (lx : 1 ≤ x) (ly : 1 ≤ y) where
    abbrev is_new : Bool
    is_new = suc (x - 1) == a && suc (y - 1) == b

    -- no other numbers are joined anew
    other : ¬ ((x ≡ a) × (y ≡ b)) → record_if_joined next x y ≡ record_if_joined k x y
    other ne = ap (λ t. cond t (join_record x y) []) (joins_is next x y lx ly ∙ same ∙ sym (joins_is k x y lx ly))
      where
        old : next.joined (x - 1) (y - 1) ≡ true → k.joined (x - 1) (y - 1) ≡ true
        old j =
            elim (or_cases (k.joined (x - 1) (y - 1)) is_new j) [
              | inl h ↦ h
              | inr h ↦
                  (let q = and_parts (suc (x - 1) == a) (suc (y - 1) == b) h in
                  let ex : suc (x - 1) ≡ a = eqb-true (suc (x - 1)) a q.0 in
                  let ey : suc (y - 1) ≡ b = eqb-true (suc (y - 1)) b q.1 in
                  absurd (ne (omega (arith, ex, lx), omega (arith, ey, ly))))
            ]

        same : next.joined (x - 1) (y - 1) ≡ k.joined (x - 1) (y - 1)
        same = both_or_none (next.joined (x - 1) (y - 1)) (k.joined (x - 1) (y - 1)) old (or_left (k.joined (x - 1) (y - 1)) is_new)

    -- numbers that do not come before a and b are not joined yet
    none_yet : ¬ Sooner x y a b → record_if_joined k x y ≡ []
    none_yet not = ap (λ t. cond t (join_record x y) []) (joins_is k x y lx ly ∙ no (k.joined (x - 1) (y - 1)) refl)
      where
        early : Sooner (suc (x - 1)) (suc (y - 1)) a b → Sooner x y a b
        early (inl l) = inl (omega (arith, l, lx))
        early (inr q) = inr (omega (arith, q.0, lx), omega (arith, q.1, ly))

        no : (t : Bool) → k.joined (x - 1) (y - 1) ≡ t → t ≡ false
        no true j = absurd (not (early (last (x - 1) (y - 1) j)))
        no false j = refl

  new_joined : record_if_joined next a b ≡ join_record a b
  new_joined =
      let there : (suc (a - 1) == a && suc (b - 1) == b) ≡ true =
      and_from (suc (a - 1) == a) (suc (b - 1) == b) (eq-eqb (suc (a - 1)) a (omega (arith, la))) (eq-eqb (suc (b - 1)) b (omega (arith, lb))) in
      ap (λ t. cond t (join_record a b) []) (joins_is next a b la lb ∙ or_right (k.joined (a - 1) (b - 1)) (suc (a - 1) == a && suc (b - 1) == b) there)

  -- the row of a has one record more
  row_grows : Grows (record_if_joined k a) (record_if_joined next a) b (join_record a b)
  row_grows = record {
    before = λ y ly lt. other a y la ly (λ q. omega (arith, q.1, lt));
    here = new_joined ∙ ap (λ l. l ++ join_record a b) (sym (none_yet a b la lb (λ q. elim q [ inl l ↦ omega (arith, l) | inr r ↦ omega (arith, r.1) ])));
    none = λ y lt. behind y lt;
    still = λ y lt. other a y la (omega (arith, lt, lb)) (λ q. omega (arith, q.1, lt)) ∙ behind y lt;
  }
    where
      behind : (y : ℕ) → b < y → record_if_joined k a y ≡ []
      behind y lt = none_yet a y la (omega (arith, lt, lb)) (λ q. elim q [ inl l ↦ omega (arith, l) | inr r ↦ omega (arith, r.1, lt) ])

  pub joins_push : Known k a → Known k b → join_records next ≡ join_records k ++ join_record a b
  joins_push ka kb = flat_grows (joins_from k) (joins_from next) a (join_record a b) rows (count k) 1 (omega arith) la (omega (arith, ka.1))
    where
      other_row : (x : ℕ) → 1 ≤ x → ¬ (x ≡ a) → joins_from next x ≡ joins_from k x
      other_row x lx ne = flat_same (record_if_joined k x) (record_if_joined next x) (count k) 1 (λ y ly. other x y lx ly (λ q. ne q.0))

      behind : (x : ℕ) → a < x → joins_from k x ≡ []
      behind x lt =
          flat_none (record_if_joined k x) (count k) 1
          (λ y ly. none_yet x y (omega (arith, lt, la)) ly (λ q. elim q [ inl l ↦ omega (arith, l, lt) | inr r ↦ omega (arith, r.0, lt) ]))

      rows : Grows (joins_from k) (joins_from next) a (join_record a b)
      rows = record {
        before = λ x lx lt. other_row x lx (λ e. omega (arith, e, lt));
        here = flat_grows (record_if_joined k a) (record_if_joined next a) b (join_record a b) row_grows (count k) 1 (omega arith) lb (omega (arith, kb.1));
        none = behind;
        still = λ x lt. other_row x (omega (arith, lt, la)) (λ e. omega (arith, e, lt)) ∙ behind x lt;
      }
