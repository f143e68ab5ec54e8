-- An accepted change leaves sound contents sound.
use Rattle.std.proofs.Common.{◌≡◌, ℕ, suc, ◌-◌, ◌<◌, true, ◌&&◌, eqb, ◌⊎◌, [], ◌∷◌, get_or, sym, refl, ap, ◌∙◌, inl, inr, arith}
use Rattle.std.proofs.lemmas.Bool.{cases_lt, eqb-true, or_cases, and_parts}
use Rattle.std.proofs.lemmas.List.{length_push, length-set, get_or_push, get_or_append_left, get_or_default}
use Rattle.plan.specs.Multiples.{lcm}
use Rattle.plan.specs.declared.handlers.Handler.{Handler}
use Rattle.plan.specs.Rows.{blank, IsInRange}
use Rattle.plan.specs.Contents.{Contents, count, at, round, Sound}
use Rattle.plan.specs.Calls.{added, Takes, with_join, MayJoin, seated, reseated, MaySeat}
use Rattle.plan.proofs.Chains.{still_straight, not_back}
use Rattle.plan.proofs.Changes.{set_ranges, seat_field}
use Rattle.plan.proofs.Rounds.{folded_set}

-- ---- the three changes

module _ (k : Contents) (sound : Sound k) where
  module _ (h : Handler) (takes : Takes k h) where
    old_row : (i : ℕ) → i < count k → at (added k h) i ≡ at k i
    old_row i l = get_or_append_left k.handlers (h ∷ []) blank i l

    -- a field that joined handlers have alike
    still_alike : (f : Handler → ℕ) → ((a b : ℕ) → k.joined a b ≡ true → f (at k a) ≡ f (at k b))
        → (a b : ℕ) → k.joined a b ≡ true → f (at (added k h) a) ≡ f (at (added k h) b)
    still_alike f all a b j = let q = sound.inside a b j in ap f (old_row a q.0) ∙ all a b j ∙ sym (ap f (old_row b q.1))

    in_range : (i : ℕ) → i < count (added k h) → IsInRange (at (added k h) i)
    in_range i l =
        elim (cases_lt i (count k)) [
          | inl e ↦ rw (old_row i e) (sound.ranges i e)
          | inr g ↦ (let e : count k ≡ i = omega (arith, l, g, length_push k.handlers h) in rw (get_or_push k.handlers h blank i e) takes.range)
        ]

    pub added_sound : Sound (added k h)
    added_sound = record {
      few = omega (arith, length_push k.handlers h, takes.room);
      ranges = in_range;
      short = takes.short;
      inside = λ a b j. let q = sound.inside a b j in (omega (arith, length_push k.handlers h, q.0), omega (arith, length_push k.handlers h, q.1));
      periods = still_alike (λ x. x.period) sound.periods;
      offsets = still_alike (λ x. x.offset) sound.offsets;
      no_circle = sound.no_circle;
    }

  module _ (a b : ℕ) (may : MayJoin k a b) where
    joined_cases : (x y : ℕ) → (with_join k a b).joined x y ≡ true → (k.joined x y ≡ true) ⊎ ((x ≡ a - 1) × (y ≡ b - 1))
    joined_cases x y j =
        elim (or_cases (k.joined x y) (eqb (suc x) a && eqb (suc y) b) j) [
          | inl h ↦ inl h
          | inr h ↦
              (let q = and_parts (eqb (suc x) a) (eqb (suc y) b) h in
              let u : suc x ≡ a = eqb-true (suc x) a q.0 in
              let v : suc y ≡ b = eqb-true (suc y) b q.1 in
              inr (omega arith, omega arith))
        ]

    -- a field that the two have alike
    alike : (f : Handler → ℕ) → f (at k (a - 1)) ≡ f (at k (b - 1)) → ((x y : ℕ) → k.joined x y ≡ true → f (at k x) ≡ f (at k y))
        → (x y : ℕ) → (with_join k a b).joined x y ≡ true → f (at k x) ≡ f (at k y)
    alike f e all x y j =
        elim (joined_cases x y j) [
          | inl h ↦ all x y h
          | inr q ↦ ap (λ i. f (at k i)) q.0 ∙ e ∙ ap (λ i. f (at k i)) (sym q.1)
        ]

    both_inside : (x y : ℕ) → (with_join k a b).joined x y ≡ true → (x < count k) × (y < count k)
    both_inside x y j =
        elim (joined_cases x y j) [
          | inl h ↦ sound.inside x y h
          | inr q ↦ (omega (arith, q.0, may.known_a.0, may.known_a.1), omega (arith, q.1, may.known_b.0, may.known_b.1))
        ]

    pub join_sound : Sound (with_join k a b)
    join_sound = record {
      few = sound.few;
      ranges = sound.ranges;
      short = sound.short;
      inside = both_inside;
      periods = alike (λ x. x.period) may.periods sound.periods;
      offsets = alike (λ x. x.offset) may.offsets sound.offsets;
      no_circle = still_straight k.joined (with_join k a b).joined (a - 1) (b - 1) joined_cases sound.no_circle (not_back k a b may);
    }

  module _ (n c : ℕ) (may : MaySeat k n c) where
    abbrev row : Handler
    row = seated (at k (n - 1)) c

    within : n - 1 < count k
    within = omega (arith, may.known.0, may.known.1)

    as_long : count (reseated k n c) ≡ count k
    as_long = length-set k.handlers (n - 1) row

    same_field : (f : Handler → ℕ) → f row ≡ f (at k (n - 1)) → (i : ℕ) → f (at (reseated k n c) i) ≡ f (at k i)
    same_field = seat_field k.handlers (n - 1) row within

    same_period : row.period ≡ (get_or k.handlers (n - 1) row).period
    same_period = ap (λ (h : Handler). h.period) (sym (get_or_default k.handlers (n - 1) row blank within))

    same_round : round (reseated k n c) ≡ round k
    same_round = folded_set (λ m h. lcm m h.period) 1 k.handlers (n - 1) row (λ m. ap (lcm m) same_period)

    still_seated : (i : ℕ) → i < count k → IsInRange (at (reseated k n c) i)
    still_seated =
        let g = sound.ranges (n - 1) within in
        set_ranges k.handlers (n - 1) row within (count k) (λ i l ne. sound.ranges i l) (g.0, g.1, g.2, may.low, may.high, g.5)

    pub seat_sound : Sound (reseated k n c)
    seat_sound = record {
      few = omega (arith, as_long, sound.few);
      ranges = λ i l. still_seated i (omega (arith, as_long, l));
      short = omega (arith, same_round, sound.short);
      inside = λ a b j. let q = sound.inside a b j in (omega (arith, as_long, q.0), omega (arith, as_long, q.1));
      periods = λ a b j. same_field (λ x. x.period) refl a ∙ sound.periods a b j ∙ sym (same_field (λ x. x.period) refl b);
      offsets = λ a b j. same_field (λ x. x.offset) refl a ∙ sound.offsets a b j ∙ sym (same_field (λ x. x.offset) refl b);
      no_circle = sound.no_circle;
    }
