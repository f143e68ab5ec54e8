-- Joins are taken one after another, and so the records of the joins are read.
use Rattle.std.proofs.Common.{◌≡◌, ℕ, zero, suc, ◌+◌, ◌-◌, ◌<◌, ◌≤◌, Bool, true, false, cond, List, [], ◌++◌, sym, refl, ap₂, ◌∙◌, subst, inl, inr, true≢false, arith}
use mathlib.Core.Path.{fun_ext}
use Rattle.std.specs.List.{flat_map, range_with_len}
use Rattle.std.proofs.lemmas.Bool.{cases_eq, cases_lt}
use Rattle.std.proofs.lemmas.List.{append_assoc}
use Rattle.plan.specs.Contents.{Contents, count, joins, Sound}
use Rattle.planfile.specs.Files.{join_record, join_records, numbers}
use Rattle.planfile.specs.Tests.{Standing}
use Rattle.planfile.proofs.FiledRecords.{Sooner, onward}
use Rattle.planfile.proofs.FiledSteps.{Left, join_read}
use Rattle.planfile.proofs.FiledTurns.{joins_is, both_or_none, turn, TakesJoins, Joined, low, NoTurn, skipped, same_turn, joined_read}
use Rattle.planfile.proofs.FiledHandlers.{alone, Handled}

module _ (k : Contents) (sound : Sound k) where
  -- ---- whatever takes joins one after another

  module _ (text_of : ℕ → ℕ → List ℕ) (Come : ℕ → Contents → List ℕ → Type 0) (taking : TakesJoins text_of Come) where
    -- the turn m has come, and this is left
    abbrev At : ℕ → List ℕ → Type 0
    At m left = Joined k sound Come m left

    -- the text of a and b, if they are joined
    abbrev text_if_joined : ℕ → ℕ → List ℕ
    text_if_joined a b = cond (joins k a b) (text_of a b) []

    -- the texts of a row, and those of all rows
    abbrev row_texts : ℕ → List ℕ
    row_texts a = flat_map (text_if_joined a) (numbers k)

    abbrev texts : List ℕ
    texts = flat_map row_texts (numbers k)

    place_read : (a b : ℕ) → 1 ≤ a → 1 ≤ b → b ≤ 64 → (rest : List ℕ) → At (turn a b) (text_if_joined a b ++ rest) → At (turn a b + 1) rest
    place_read a b la lb high rest p = go (k.joined (a - 1) (b - 1)) refl
      where
        by : (t : Bool) → k.joined (a - 1) (b - 1) ≡ t → At (turn a b) (cond t (text_of a b) [] ++ rest)
        by t j = subst (λ t. At (turn a b) (cond t (text_of a b) [] ++ rest)) (joins_is k a b la lb ∙ j) p

        go : (t : Bool) → k.joined (a - 1) (b - 1) ≡ t → At (turn a b + 1) rest
        go true j = joined_read k sound a b la lb high j text_of Come taking rest (by true j)
        go false j =
            skipped k sound text_of Come taking (turn a b) (turn a b + 1) rest (omega arith) not_here (by false j)
          where
            not_here : NoTurn k sound (turn a b) (turn a b + 1)
            not_here x y i le =
                elim (cases_eq (turn (suc x) (suc y)) (turn a b)) [
                  | inl e ↦ (let q = same_turn k sound a b x y la lb high i e in absurd (true≢false (sym i ∙ ap₂ k.joined q.0 q.1 ∙ j)))
                  | inr ne ↦ omega (arith, le, ne)
                ]

    -- the texts of a row, from b on
    row_read : (a : ℕ) → 1 ≤ a → (n b : ℕ) → 1 ≤ b → b + n ≡ count k + 1 → (rest : List ℕ) → At (turn a b) (flat_map (text_if_joined a) (range_with_len b n) ++ rest)
        → At (turn a (count k + 1)) rest
    row_read a la zero b lb e rest p = let end : b ≡ count k + 1 = omega (arith, e) in subst (λ m. At (turn a m) rest) end p
    row_read a la (suc n) b lb e rest p =
        let others = flat_map (text_if_joined a) (range_with_len (b + 1) n) in
        let next : turn a b + 1 ≡ turn a (b + 1) = omega arith in
        row_read a la n (b + 1) (omega arith) (omega (arith, e)) rest
        (subst (λ m. At m (others ++ rest)) next
        (place_read a b la lb (omega (arith, e, sound.few)) (others ++ rest) (subst (At (turn a b)) (append_assoc (text_if_joined a b) others rest) p)))

    -- the texts of all rows, from that of a on
    rows_read : (n a : ℕ) → 1 ≤ a → a + n ≡ count k + 1 → (rest : List ℕ) → At (turn a 1) (flat_map row_texts (range_with_len a n) ++ rest) → At (turn (count k + 1) 1) rest
    rows_read zero a la e rest p = let end : a ≡ count k + 1 = omega (arith, e) in subst (λ m. At (turn m 1) rest) end p
    rows_read (suc n) a la e rest p =
        let others = flat_map row_texts (range_with_len (a + 1) n) in
        let row = row_read a la (count k) 1 (omega arith) (omega arith) (others ++ rest) (subst (At (turn a 1)) (append_assoc (row_texts a) others rest) p) in
        rows_read n (a + 1) (omega arith) (omega (arith, e)) rest
        (skipped k sound text_of Come taking (turn a (count k + 1)) (turn (a + 1) 1) (others ++ rest) (omega (arith, sound.few)) row_ends row)
      where
        row_ends : NoTurn k sound (turn a (count k + 1)) (turn (a + 1) 1)
        row_ends x y j le = let q = low k sound x y j in omega (arith, le, q.1, q.2)

    joined_all : (m : ℕ) (left : List ℕ) → turn (count k) 64 < m → (p : At m left) → p.contents ≡ k
    joined_all m left le p =
        let same : (x y : ℕ) → p.contents.joined x y ≡ k.joined x y = λ x y.
        both_or_none (p.contents.joined x y) (k.joined x y) (λ j. (p.upto.only x y j).0)
        (λ j. let q = low k sound x y j in p.upto.each x y j (omega (arith, q.0, q.1, q.2, le))) in
        let joins : p.contents.joined ≡ k.joined = fun_ext (λ x. fun_ext (λ y. same x y)) in
        ap₂ (λ hs j. record { handlers = hs; joined = j }) p.upto.handlers joins

    pub joins_come : (rest : List ℕ) → Come (turn 1 1) (alone k.handlers) (texts ++ rest) → Come (turn (count k + 1) 1) k rest
    joins_come rest come =
        let begun : At (turn 1 1) (texts ++ rest) =
        record {
          contents = alone k.handlers;
          now = come;
          upto = record { handlers = refl; only = λ x y j. absurd (true≢false (sym j)); each = λ x y j lt. absurd (omega (arith, lt)) };
        } in
        let all = rows_read (count k) 1 (omega arith) (omega arith) rest begun in
        subst (λ l. Come (turn (count k + 1) 1) l rest) (joined_all (turn (count k + 1) 1) rest (omega arith) all) all.now

  -- ---- the records of a file

  -- the last join was before the turn m, the plan holds these contents, and this is left
  record JoinsRead (bytes : List ℕ) (m : ℕ) (l : Contents) (left : List ℕ) : Type 0 where
    stands : Standing
    kind : stands.kind ≤ 2
    last : turn stands.first stands.second < m
    cores : stands.cores ≡ 0
    now : Left bytes stands l [] left

  later : (bytes : List ℕ) (a b : ℕ) (l : Contents) (left : List ℕ) → b ≤ 64 → (p : JoinsRead bytes (turn a b) l left) → Sooner p.stands.first p.stands.second a b
  later bytes a b l left high p =
      elim (cases_lt p.stands.first a) [
        | inl e ↦ inl e
        | inr g ↦ inr (omega (arith, g, p.last, high), omega (arith, g, p.last, high))
      ]

  by_records : (bytes : List ℕ) → TakesJoins join_record (JoinsRead bytes)
  by_records bytes = record {
    waits = λ m n l left le p. record { stands = p.stands; kind = p.kind; last = omega (arith, p.last, le); cores = p.cores; now = p.now };
    takes = λ a b l rest ka kb may p. record {
      stands = onward bytes p.stands 2 2 a b p.stands.cores;
      kind = omega arith;
      last = omega arith;
      cores = p.cores;
      now = join_read bytes p.stands l [] rest a b p.now p.kind (later bytes a b l (join_record a b ++ rest) kb.1 p) may;
    };
  }

  -- after all records of joins the plan is k
  pub record AllJoined (bytes left : List ℕ) : Type 0 where
    pub stands : Standing
    pub kind : stands.kind ≤ 2
    pub cores : stands.cores ≡ 0
    pub now : Left bytes stands k [] left

  pub joins_read : (bytes rest : List ℕ) → Handled bytes (alone k.handlers) (join_records k ++ rest) → AllJoined bytes rest
  joins_read bytes rest h =
      let begun : JoinsRead bytes (turn 1 1) (alone k.handlers) (join_records k ++ rest) =
      record {
        stands = h.stands;
        kind = omega (arith, h.fresh.kind);
        last = omega (arith, h.fresh.first, h.fresh.second);
        cores = h.fresh.cores;
        now = h.now;
      } in
      let all = joins_come join_record (JoinsRead bytes) (by_records bytes) rest begun in
      record { stands = all.stands; kind = all.kind; cores = all.cores; now = all.now }
