-- Counting up through rows: what the loop of `next_row` keeps, and what comes after what.
use Rattle.std.proofs.Common.{◌≡◌, ℕ, zero, suc, ◌+◌, ◌-◌, ◌*◌, ◌<◌, ◌≤◌, ◌⊎◌, List, [], ◌∷◌, length, get_or, sym, ap, ◌∙◌, subst, inl, inr, mul-suc, arith}
use Rattle.std.proofs.lemmas.List.{get_or_past, ext_get_or}
use Rattle.std.proofs.lemmas.Bool.{cases_eq, cases_lt, cases_order}
use Rattle.checker.specs.Rows.{Below, Between, Later, NextRow, after}

-- the first i places were full and are back at low, and the others are as they were
pub record Turned (low high x : List ℕ) (i : ℕ) (y : List ℕ) : Type 0 where
  pub long : length y ≡ 64
  pub full : (j : ℕ) → j < i → get_or x j 0 ≡ get_or high j 0
  pub back : (j : ℕ) → j < i → get_or y j 0 ≡ get_or low j 0
  pub same : (j : ℕ) → i ≤ j → get_or y j 0 ≡ get_or x j 0

-- ---- what comes after what

pub later_not_self : (x : List ℕ) → ¬ Later x x
later_not_self x l = omega (arith, l.more)

-- rows that agree from the place n on, and of which one is nowhere less, are one, or it is later
pub agree_from : (x y : List ℕ) → length x ≡ length y → Below y x → (n : ℕ) → ((j : ℕ) → n ≤ j → get_or x j 0 ≡ get_or y j 0) → (x ≡ y) ⊎ Later y x
agree_from x y long below zero same = inl (ext_get_or 0 x y long (λ i l. same i (omega arith)))
agree_from x y long below (suc n) same = go (cases_eq (get_or x n 0) (get_or y n 0)) (agree_from x y long below n)
  where
    go : (get_or x n 0 ≡ get_or y n 0) ⊎ (get_or x n 0 ≡ get_or y n 0 → ⊥) → (((j : ℕ) → n ≤ j → get_or x j 0 ≡ get_or y j 0) → (x ≡ y) ⊎ Later y x) → (x ≡ y) ⊎ Later y x
    go (inl e) rest = rest (λ j l. elim (cases_eq j n) [ inl q ↦ subst (λ k. get_or x k 0 ≡ get_or y k 0) (sym q) e | inr ne ↦ same j (omega arith) ])
    go (inr ne) rest = inr (record { place = n; more = omega (arith, below n); same = λ j l. same j l })

module _ (low high x : List ℕ) where
  -- the least row is the first
  pub least_first : length low ≡ 64 → Between low high x → (x ≡ low) ⊎ Later low x
  least_first long b =
      agree_from x low (b.long ∙ sym long) b.above 64
      (λ j l. get_or_past x j 0 (omega (arith, b.long)) ∙ sym (get_or_past low j 0 (omega (arith, long))))

  module _ (y : List ℕ) (next : NextRow low high x y) where
    -- what comes after x is y, or comes after y
    pub next_covers : (v : List ℕ) → Between low high v → Later x v → (v ≡ y) ⊎ Later y v
    next_covers v b l = go (cases_order l.place next.place)
      where
        level : l.place ≡ next.place → (get_or v next.place 0 ≡ get_or y next.place 0) ⊎ (get_or v next.place 0 ≡ get_or y next.place 0 → ⊥) → (v ≡ y) ⊎ Later y v
        level e (inl q) =
            let from : (j : ℕ) → next.place ≤ j → get_or v j 0 ≡ get_or y j 0 = λ j h.
            elim (cases_eq j next.place) [
              | inl same ↦ subst (λ k. get_or v k 0 ≡ get_or y k 0) (sym same) q
              | inr ne ↦ (let far : next.place < j = omega arith in l.same j (omega (arith, e)) ∙ sym (next.same j far))
            ] in
            let below : Below y v = λ j.
            elim (cases_lt j next.place) [
              | inl h ↦ omega (arith, next.back j h, b.above j)
              | inr h ↦ omega (arith, from j h)
            ] in
            agree_from v y (b.long ∙ sym next.long) below next.place from
        level e (inr ne) =
            let more : get_or x next.place 0 < get_or v next.place 0 = subst (λ k. get_or x k 0 < get_or v k 0) e l.more in
            inr (record { place = next.place; more = omega (arith, more, next.up, ne); same = λ j h. l.same j (omega (arith, e)) ∙ sym (next.same j h) })

        go : (l.place ≡ next.place) ⊎ ((l.place < next.place) ⊎ (next.place < l.place)) → (v ≡ y) ⊎ Later y v
        go (inl e) = level e (cases_eq (get_or v next.place 0) (get_or y next.place 0))
        go (inr (inl h)) = absurd (omega (arith, l.more, next.full l.place h, b.below l.place))
        go (inr (inr h)) =
            inr (record { place = l.place; more = omega (arith, l.more, next.same l.place h); same = λ j k. l.same j k ∙ sym (next.same j (omega arith)) })

    pub next_later : Later x y
    next_later = record { place = next.place; more = omega (arith, next.up); same = next.same }

    -- and all of that comes after x
    pub next_after : (v : List ℕ) → (v ≡ y) ⊎ Later y v → Later x v
    next_after v (inl e) = subst (Later x) (sym e) next_later
    next_after v (inr l) = go (cases_lt l.place next.place)
      where
        go : (l.place < next.place) ⊎ (next.place ≤ l.place) → Later x v
        go (inl h) =
            record { place = next.place; more = omega (arith, l.same next.place h, next.up); same = λ j k. l.same j (omega arith) ∙ next.same j k }
        go (inr h) = record { place = l.place; more = past (cases_eq l.place next.place); same = λ j k. l.same j k ∙ next.same j (omega arith) }
          where
            past : (l.place ≡ next.place) ⊎ (l.place ≡ next.place → ⊥) → get_or x l.place 0 < get_or v l.place 0
            past (inl e) =
                subst (λ k. get_or x k 0 < get_or v k 0) (sym e)
                (let more : get_or y next.place 0 < get_or v next.place 0 = subst (λ k. get_or y k 0 < get_or v k 0) e l.more in omega (arith, next.up))
            past (inr ne) = omega (arith, l.more, next.same l.place (omega arith))

-- ---- how many are left

times_more : (a b c : ℕ) → suc c ≡ b → suc a * b ≡ suc a * c + suc a
times_more a b c e = ap (λ n. suc a * n) (sym e) ∙ mul-suc (suc a) c

-- one fewer after the next row
pub after_falls : (x y low high : List ℕ) (i : ℕ) → length y ≡ length x → length low ≡ length x → length high ≡ length x → i < length x
    → ((j : ℕ) → j < i → get_or x j 0 ≡ get_or high j 0) → ((j : ℕ) → j < i → get_or y j 0 ≡ get_or low j 0)
    → get_or x i 0 < get_or high i 0 → get_or y i 0 ≡ get_or x i 0 + 1 → ((j : ℕ) → i < j → get_or y j 0 ≡ get_or x j 0)
    → suc (after y low high) ≡ after x low high
after_falls [] y low high i ly ll lh inside full back room up same = absurd (omega arith)
after_falls (x ∷ xs) [] low high i ly ll lh inside full back room up same = absurd (omega arith)
after_falls (x ∷ xs) (y ∷ ys) [] high i ly ll lh inside full back room up same = absurd (omega arith)
after_falls (x ∷ xs) (y ∷ ys) (l ∷ low) [] i ly ll lh inside full back room up same = absurd (omega arith)
after_falls (x ∷ xs) (y ∷ ys) (l ∷ low) (h ∷ high) zero ly ll lh inside full back room up same =
    let tail : ys ≡ xs = ext_get_or 0 ys xs (omega arith) (λ j k. same (suc j) (omega arith)) in
    let e : suc (h - l) * after ys low high ≡ suc (h - l) * after xs low high = ap (λ zs. suc (h - l) * after zs low high) tail in
    omega arith
after_falls (x ∷ xs) (y ∷ ys) (l ∷ low) (h ∷ high) (suc i) ly ll lh inside full back room up same =
    let rest : suc (after ys low high) ≡ after xs low high =
    after_falls xs ys low high i (omega arith) (omega arith) (omega arith) (omega arith)
    (λ j k. full (suc j) (omega arith)) (λ j k. back (suc j) (omega arith)) room up (λ j k. same (suc j) (omega arith)) in
    let first : x ≡ h = full 0 (omega arith) in
    let begin : y ≡ l = back 0 (omega arith) in
    let e : suc (h - l) * after xs low high ≡ suc (h - l) * after ys low high + suc (h - l) = times_more (h - l) (after xs low high) (after ys low high) rest in
    omega arith
