-- What the tests of a record let through, and which record it then is, by its kind.
use Rattle.std.proofs.Common.{◌≡◌, ℕ, suc, ◌+◌, ◌<◌, ◌≤◌, ◌⊎◌, ◌↔◌, Bool, true, false, List, length, drop, slice_index, Some, None, Option, Ok, Err, Result, is_some, MatchOption, Bor, sym, refl, ap, ◌∙◌, subst, zero-add, inl, inr, true≢false, arith}
use Rattle.std.specs.Prelude.{◌==◌, ◌||◌, if◌then◌else◌}
use Rattle.std.proofs.lemmas.Bool.{cases_eq, cases_lt}
use Rattle.std.proofs.lemmas.List.{get_or-drop, drop-drop, length-drop}
use Rattle.planfile.specs.declared.faults.Fault.{Fault}
use Rattle.planfile.specs.declared.records.Record.{Record}
use Rattle.planfile.specs.declared.records.Record.TheVariants.{Handler as HandlerRecord, Join as JoinRecord, Core as CoreRecord, End}
use Rattle.planfile.specs.Files.{record_length}
use Rattle.planfile.specs.Tests.{Standing, outset, byte, kind_here, handler_here, record_here, past, Unknown, EndsInside, BodyMisplaced, RecordIs, NextIs}
use Rattle.plan.proofs.Tested.{passed}

-- the byte after a place, in what follows the place
pub byte_of : (bytes : List ℕ) (s : Standing) (left : List ℕ) → drop s.place bytes ≡ left → (i : ℕ) → byte bytes s i ≡ slice_index left i
byte_of bytes s left e i = sym (get_or-drop s.place bytes i 0) ∙ ap (λ l. slice_index l i) e

-- the numbers a and b come before c and d: the first decides, and then the second
abbrev pub Sooner : ℕ → ℕ → ℕ → ℕ → Type 0
Sooner a b c d = (a < c) ⊎ ((a ≡ c) × (b < d))

-- every record has a byte
some_length : (kind : ℕ) → 1 ≤ record_length kind
some_length kind = go (kind == 1) (kind == 2 || kind == 3)
  where
    go : (a b : Bool) → 1 ≤ (if a then 10 else (if b then 3 else 1))
    go true b = omega arith
    go false true = omega arith
    go false false = omega arith

-- ---- what is left

module _ (bytes : List ℕ) (s : Standing) (left : List ℕ) (is : left ≡ drop s.place bytes) where
  there : (i : ℕ) → byte left outset i ≡ byte bytes s i
  there i = ap (λ n. slice_index left n) (zero-add i) ∙ sym (byte_of bytes s left (sym is) i)

  kind_there : kind_here left outset ≡ kind_here bytes s
  kind_there = there 0

  pub known_there : ¬ Unknown bytes s → ¬ Unknown left outset
  known_there known u = known (subst (λ k. (k ≡ 0) ⊎ (4 < k)) kind_there u)

  long_there : EndsInside left outset ↔ EndsInside bytes s
  long_there =
      let long = ap length is ∙ length-drop s.place bytes in
      let same = ap record_length kind_there in
      let some = some_length (kind_here bytes s) in
      (λ l. omega (arith, l, long, same, some), λ l. omega (arith, l, long, same, some))

  record_there : record_here left outset ≡ record_here bytes s
  record_there = rw (there 0, there 1, there 2, there 3, there 4, there 5, there 6, there 7, there 8, there 9) refl

  rest_there : drop (record_length (kind_here left outset)) left ≡ drop (past bytes s).place bytes
  rest_there =
      ap (drop (record_length (kind_here left outset))) is ∙ drop-drop (record_length (kind_here left outset)) s.place bytes
      ∙ ap (λ k. drop (s.place + record_length k) bytes) kind_there

  -- what is decoded of the bytes that are left is so at their place in all
  pub decoded_there : (r : Option (Record × Bor (List ℕ)))
      → MatchOption r (EndsInside left outset) (λ f.
      (¬ EndsInside left outset) × (f.0 ≡ record_here left outset) × (f.1.now ≡ drop (record_length (kind_here left outset)) left))
      → MatchOption r (EndsInside bytes s) (λ f.
      (¬ EndsInside bytes s) × (f.0 ≡ record_here bytes s) × (f.1.now ≡ drop (past bytes s).place bytes))
  decoded_there None ends = long_there.0 ends
  decoded_there (Some f) found = ((λ ends. found.0 (long_there.1 ends)), found.1 ∙ record_there, found.2 ∙ rest_there)

module _ (bytes : List ℕ) (s : Standing) where
  -- ---- the tests

  -- the next record passes all of them
  pub record Passes : Type 0 where
    pub some : 1 ≤ kind_here bytes s
    pub known : kind_here bytes s ≤ 4
    pub rises : s.kind ≤ kind_here bytes s
    pub few : kind_here bytes s ≡ 3 → s.cores < 8
    pub all : kind_here bytes s ≡ 4 → 8 ≤ s.cores
    pub inside : s.place + record_length (kind_here bytes s) ≤ length bytes
    pub later : kind_here bytes s ≡ 2 → s.kind ≡ 2 → Sooner s.first s.second (byte bytes s 1) (byte bytes s 2)
    pub turn : kind_here bytes s ≡ 3 → byte bytes s 1 ≡ suc s.cores

  not_below : (x y : ℕ) → ¬ (x < y) → y ≤ x
  not_below x y not = elim (cases_lt x y) [ inl l ↦ absurd (not l) | inr g ↦ g ]

  pub past_all : ¬ (s.kind ≡ 4) → Passes → NextIs bytes s (Ok (Some (record_here bytes s)))
  past_all going p =
      let some = p.some in
      let known = p.known in
      let rises = p.rises in
      let inside = p.inside in
      let long = some_length (kind_here bytes s) in
      inr (going, inr (λ l. omega (arith, l, inside, long), inr (unknown, inr (misplaced, inr (λ l. omega (arith, l, inside), inr (body_misplaced, refl))))))
    where
      unknown : ¬ Unknown bytes s
      unknown (inl e) = omega (arith, e, p.some)
      unknown (inr l) = omega (arith, l, p.known)

      misplaced : (kind_here bytes s < s.kind) ⊎ (((kind_here bytes s ≡ 3) × (8 ≤ s.cores)) ⊎ ((kind_here bytes s ≡ 4) × (s.cores < 8))) → ⊥
      misplaced (inl l) = omega (arith, l, p.rises)
      misplaced (inr (inl q)) = omega (arith, q.1, p.few q.0)
      misplaced (inr (inr q)) = omega (arith, q.1, p.all q.0)

      body_misplaced : ¬ BodyMisplaced bytes s
      body_misplaced (inl q) = apart (p.later q.0 q.1) q.2
        where
          apart : Sooner s.first s.second (byte bytes s 1) (byte bytes s 2)
              → (byte bytes s 1 < s.first) ⊎ ((byte bytes s 1 ≡ s.first) × (byte bytes s 2 ≤ s.second)) → ⊥
          apart (inl l) (inl m) = omega (arith, l, m)
          apart (inl l) (inr m) = omega (arith, l, m.0)
          apart (inr l) (inl m) = omega (arith, l.0, m)
          apart (inr l) (inr m) = omega (arith, l.1, m.1)
      body_misplaced (inr q) = q.1 (p.turn q.0)

  -- a record that is read stands before the end
  pub before_end : (r : Record) → NextIs bytes s (Ok (Some r)) → ¬ (s.kind ≡ 4) × RecordIs bytes s (Ok (Some r))
  before_end r (inl (ended, no_more)) = absurd (none_more (passed no_more).1)
    where
      none_more : ◌≡◌ {A = Result (Option Record) Fault} (Ok (Some r)) (Ok None) → ⊥
      none_more e = true≢false (ap (λ (t : Result (Option Record) Fault). elim t [ Ok o ↦ is_some o | Err f ↦ true ]) e)
  before_end r (inr q) = q

  -- where no record comes, the end record has come, and the bytes end
  pub at_end : NextIs bytes s (Ok None) → (s.kind ≡ 4) × (length bytes ≤ s.place)
  at_end (inl (ended, no_more)) = (ended, not_below s.place (length bytes) (passed no_more).0)
  at_end (inr (going, next)) = absurd (some_more (passed (passed (passed (passed (passed next).1).1).1).1).1)
    where
      some_more : ◌≡◌ {A = Result (Option Record) Fault} (Ok None) (Ok (Some (record_here bytes s))) → ⊥
      some_more e = true≢false (sym (ap (λ (t : Result (Option Record) Fault). elim t [ Ok o ↦ is_some o | Err f ↦ true ]) e))

  pub passes : (r : Record) → NextIs bytes s (Ok (Some r)) → Passes
  passes r next =
      let rest = passed (before_end r next).1 in
      let known = passed rest.1 in
      let placed = passed known.1 in
      let inside = passed placed.1 in
      let ordered = passed inside.1 in
      record {
        some = not_below (kind_here bytes s) 1 (λ l. known.0 (inl (omega (arith, l))));
        known = not_below 4 (kind_here bytes s) (λ l. known.0 (inr l));
        rises = not_below (kind_here bytes s) s.kind (λ l. placed.0 (inl l));
        few = λ e. let g = not_below 7 s.cores (λ l. placed.0 (inr (inl (e, l)))) in omega (arith, g);
        all = λ e. not_below s.cores 8 (λ l. placed.0 (inr (inr (e, l))));
        inside = not_below (length bytes) (s.place + record_length (kind_here bytes s)) inside.0;
        later = λ e was. later (λ q. ordered.0 (inl (e, was, q)));
        turn = λ e. elim (cases_eq (byte bytes s 1) (suc s.cores)) [ inl same ↦ same | inr ne ↦ absurd (ordered.0 (inr (e, ne))) ];
      }
    where
      later : ¬ ((byte bytes s 1 < s.first) ⊎ ((byte bytes s 1 ≡ s.first) × (byte bytes s 2 ≤ s.second)))
          → Sooner s.first s.second (byte bytes s 1) (byte bytes s 2)
      later not =
          elim (cases_lt s.first (byte bytes s 1)) [
            | inl l ↦ inl l
            | inr g ↦
                (let same : s.first ≡ byte bytes s 1 = let h = not_below (byte bytes s 1) s.first (λ l. not (inl l)) in omega (arith, g, h) in
                inr (same, not_below (byte bytes s 2) (suc s.second) (λ l. not (inr (sym same, omega (arith, l))))))
          ]

  pub entry_is : (r : Record) → NextIs bytes s (Ok (Some r)) → ◌≡◌ {A = Result (Option Record) Fault} (Ok (Some r)) (Ok (Some (record_here bytes s)))
  entry_is r next = (passed (passed (passed (passed (passed (before_end r next).1).1).1).1).1).1

  -- ---- the kinds

  -- the next record has so many bytes behind its kind, is this, and leaves the reader so
  pub record Shape (n : ℕ) (r : Record) (t : Standing) : Type 0 where
    pub long : record_length (kind_here bytes s) ≡ suc n
    pub entry : record_here bytes s ≡ r
    pub after : past bytes s ≡ t

  -- the reader after a record of n more bytes that is of this kind, with these numbers for the last join and the cores
  abbrev pub onward : ℕ → ℕ → ℕ → ℕ → ℕ → Standing
  onward n kind first second cores = record { place = s.place + suc n; kind = kind; first = first; second = second; cores = cores }

  pub handler_shape : kind_here bytes s ≡ 1 → Shape 9 (HandlerRecord (handler_here bytes s)) (onward 9 1 s.first s.second s.cores)
  handler_shape e = record { long = rw e refl; entry = rw e refl; after = rw e refl }

  pub join_shape : kind_here bytes s ≡ 2 → Shape 2 (JoinRecord (byte bytes s 1) (byte bytes s 2)) (onward 2 2 (byte bytes s 1) (byte bytes s 2) s.cores)
  join_shape e = record { long = rw e refl; entry = rw e refl; after = rw e refl }

  pub core_shape : kind_here bytes s ≡ 3 → Shape 2 (CoreRecord (byte bytes s 1) (byte bytes s 2)) (onward 2 3 s.first s.second (suc s.cores))
  core_shape e = record { long = rw e refl; entry = rw e refl; after = rw e refl }

  pub end_shape : kind_here bytes s ≡ 4 → Shape 0 End (onward 0 4 s.first s.second s.cores)
  end_shape e = record { long = rw e refl; entry = rw e refl; after = rw e refl }
