-- What the records that are read so far tell of the bytes.
use Rattle.std.proofs.Common.{◌≡◌, ℕ, suc, ◌+◌, ◌≤◌, true, false, ◌&&◌, List, [], ◌∷◌, ◌++◌, length, drop, Ok, Err, Result, is_ok, sym, refl, ap, ◌∙◌, subst, inl, inr, true≢false, arith}
use Rattle.std.specs.Prelude.{◌==◌}
use Rattle.std.specs.List.{Contains as Has}
use Rattle.std.proofs.lemmas.Bool.{cases_eq, eqb-true, or_cases, and_parts}
use Rattle.std.proofs.lemmas.List.{append_assoc, length_push}
use Rattle.std.proofs.lemmas.List.Elements.{Contains-push_cases}
use Rattle.plan.specs.declared.handlers.Handler.{Handler}
use Rattle.plan.specs.declared.refusals.Refusal.{Refusal}
use Rattle.plan.specs.Rows.{FitsWords}
use Rattle.policy.specs.Codes.{IsCode}
use Rattle.plan.specs.Contents.{Contents, empty, Sound}
use Rattle.plan.specs.Calls.{added, Takes, Registers, with_join, MayJoin, Joins}
use Rattle.planfile.specs.Files.{handler_record, join_record, core_record, handler_records, join_records, core_records}
use Rattle.planfile.specs.Tests.{Standing, outset, byte, kind_here, handler_here, of_plan}
use Rattle.planfile.specs.Theorems.{AreBytes}
use Rattle.planfile.proofs.FiledRecords.{Sooner, Passes, onward, handler_shape, join_shape, core_shape, end_shape}
use Rattle.planfile.proofs.FiledBytes.{handler_there, pair_there, end_there}
use Rattle.planfile.proofs.FiledMore.{Last, handlers_push, joins_push, cores_push, no_joins}
use Rattle.plan.proofs.Keeping.{added_sound, join_sound}
use Rattle.plan.proofs.Tested.{may_take, may_join, empty_sound}

-- ---- what is accepted

pub taken : (k next : Contents) (h : Handler) (q : Result ℕ Refusal) → FitsWords h
    → Registers k h q next → Ok tt ≡ of_plan q → Takes k h × (next ≡ added k h)
taken k next h (Ok n) fits m e = (may_take k next h n fits m, m.leaves)
taken k next h (Err f) fits m e = absurd (true≢false (ap is_ok e))

pub joined : (k next : Contents) (a b : ℕ) (q : Result (Unit {0}) Refusal) → Joins k a b q next → Ok tt ≡ of_plan q → MayJoin k a b × (next ≡ with_join k a b)
joined k next a b (Ok u) m e = (may_join k next a b u m, m.leaves)
joined k next a b (Err f) m e = absurd (true≢false (ap is_ok e))

-- numbers up to c and d come before all that c and d come before
sooner_on : (a b c d e f : ℕ) → Sooner a b c (suc d) → Sooner c d e f → Sooner a b e f
sooner_on a b c d e f (inl l) (inl m) = inl (omega (arith, l, m))
sooner_on a b c d e f (inl l) (inr m) = inl (omega (arith, l, m.0))
sooner_on a b c d e f (inr l) (inl m) = inl (omega (arith, l.0, m))
sooner_on a b c d e f (inr l) (inr m) = inr (omega (arith, l.0, m.0), omega (arith, l.1, m.1))

-- ---- one record more in a list of records

module _ (hs js cs rest entry left : List ℕ) (e : rest ≡ entry ++ left) where
  more_handlers : (hs' js' : List ℕ) → hs' ≡ hs ++ entry → js ≡ [] → js' ≡ [] → cs ≡ [] → hs ++ (js ++ (cs ++ rest)) ≡ hs' ++ (js' ++ (cs ++ left))
  more_handlers hs' js' eh ej ej' ec = rw (e, eh, ej, ej', ec) (sym (append_assoc hs entry left))

  more_joins : (js' : List ℕ) → js' ≡ js ++ entry → cs ≡ [] → hs ++ (js ++ (cs ++ rest)) ≡ hs ++ (js' ++ (cs ++ left))
  more_joins js' ej ec = rw (e, ej, ec) (ap (λ l. hs ++ l) (sym (append_assoc js entry left)))

  more_cores : (cs' : List ℕ) → cs' ≡ cs ++ entry → hs ++ (js ++ (cs ++ rest)) ≡ hs ++ (js ++ (cs' ++ left))
  more_cores cs' ec = rw (e, ec) (ap (λ l. hs ++ (js ++ l)) (sym (append_assoc cs entry left)))

module _ (bytes : List ℕ) (small : AreBytes bytes) where
  -- the bytes are the records of this plan and these codes, and then these
  abbrev pub Parted : Contents → List ℕ → List ℕ → Type 0
  Parted k codes rest = bytes ≡ handler_records k ++ (join_records k ++ (core_records 1 codes ++ rest))

  -- what the records so far tell
  pub record Told (s : Standing) (k : Contents) (codes : List ℕ) : Type 0 where
    pub sound : Sound k
    pub straight : s.kind ≤ 1 → (x y : ℕ) → k.joined x y ≡ false
    pub bare : s.kind ≤ 2 → codes ≡ []
    pub earlier : (x y : ℕ) → k.joined x y ≡ true → Sooner (suc x) (suc y) s.first (suc s.second)
    pub cores : s.cores ≡ length codes
    pub few : s.cores ≤ 8
    pub each : (c : ℕ) → Has codes c → IsCode c
    pub going : ¬ (s.kind ≡ 4) → Parted k codes (drop s.place bytes)
    pub ended : s.kind ≡ 4 → (8 ≤ s.cores) × Parted k codes (4 ∷ drop s.place bytes)

  pub told_first : Told outset empty []
  told_first = record {
    sound = empty_sound;
    straight = λ l x y. refl;
    bare = λ l. refl;
    earlier = λ x y j. absurd (true≢false (sym j));
    cores = refl;
    few = omega arith;
    each = λ c m. absurd (omega (arith, m.1));
    going = λ n. refl;
    ended = λ e. absurd (omega (arith, e));
  }

  module _ (s : Standing) (k : Contents) (codes : List ℕ) (told : Told s k codes) (going : ¬ (s.kind ≡ 4)) (p : Passes bytes s) where
    pub told_handler : (kind_here bytes s ≡ 1) → Takes k (handler_here bytes s) → Told (onward bytes s 9 1 s.first s.second s.cores) (added k (handler_here bytes s)) codes
    told_handler kind takes =
        let h = handler_here bytes s in
        let low : s.kind ≤ 1 = omega (arith, p.rises, kind) in
        let inside : s.place + 10 ≤ length bytes = omega (arith, p.inside, (handler_shape bytes s kind).long) in
        let no_codes : codes ≡ [] = told.bare (omega (arith, low)) in
        record {
          sound = added_sound k told.sound h takes;
          straight = λ l. told.straight low;
          bare = λ l. no_codes;
          earlier = told.earlier;
          cores = told.cores;
          few = told.few;
          each = told.each;
          going = λ n.
              told.going going
              ∙ more_handlers (handler_records k) (join_records k) (core_records 1 codes) (drop s.place bytes) (handler_record h) (drop (s.place + 10) bytes)
              (handler_there bytes s small kind inside)
              (handler_records (added k h)) (join_records (added k h)) (handlers_push k h)
              (no_joins k (told.straight low)) (no_joins (added k h) (told.straight low)) (ap (core_records 1) no_codes);
          ended = λ e. absurd (omega (arith, e));
        }

    pub told_join : (kind_here bytes s ≡ 2) → MayJoin k (byte bytes s 1) (byte bytes s 2)
        → Told (onward bytes s 2 2 (byte bytes s 1) (byte bytes s 2) s.cores) (with_join k (byte bytes s 1) (byte bytes s 2)) codes
    told_join kind may =
        let a = byte bytes s 1 in
        let b = byte bytes s 2 in
        let no_codes : codes ≡ [] = told.bare (omega (arith, p.rises, kind)) in
        let inside : s.place + 3 ≤ length bytes = omega (arith, p.inside, (join_shape bytes s kind).long) in
        record {
          sound = join_sound k told.sound a b may;
          straight = λ l. absurd (omega (arith, l));
          bare = λ l. no_codes;
          earlier = earlier;
          cores = told.cores;
          few = told.few;
          each = told.each;
          going = λ n.
              told.going going
              ∙ more_joins (handler_records k) (join_records k) (core_records 1 codes) (drop s.place bytes) (join_record a b) (drop (s.place + 3) bytes)
              (pair_there bytes s 2 kind inside) (join_records (with_join k a b))
              (joins_push k a b may.known_a.0 may.known_b.0 last may.known_a may.known_b) (ap (core_records 1) no_codes);
          ended = λ e. absurd (omega (arith, e));
        }
      where
        last : Last k (byte bytes s 1) (byte bytes s 2)
        last x y j =
            elim (cases_eq s.kind 2) [
              | inl was ↦ sooner_on (suc x) (suc y) s.first s.second (byte bytes s 1) (byte bytes s 2) (told.earlier x y j) (p.later kind was)
              | inr first ↦ absurd (true≢false (sym j ∙ told.straight (omega (arith, p.rises, kind, first)) x y))
            ]

        earlier : (x y : ℕ) → (with_join k (byte bytes s 1) (byte bytes s 2)).joined x y ≡ true → Sooner (suc x) (suc y) (byte bytes s 1) (suc (byte bytes s 2))
        earlier x y j =
            elim (or_cases (k.joined x y) (suc x == byte bytes s 1 && suc y == byte bytes s 2) j) [
              | inl h ↦ (elim (last x y h) [ inl l ↦ inl l | inr q ↦ inr (q.0, omega (arith, q.1)) ])
              | inr h ↦
                  (let q = and_parts (suc x == byte bytes s 1) (suc y == byte bytes s 2) h in
                  let second : suc y ≡ byte bytes s 2 = eqb-true (suc y) (byte bytes s 2) q.1 in
                  inr (eqb-true (suc x) (byte bytes s 1) q.0, omega (arith, second)))
            ]

    pub told_core : (kind_here bytes s ≡ 3) → IsCode (byte bytes s 2) → Told (onward bytes s 2 3 s.first s.second (suc s.cores)) k (codes ++ byte bytes s 2 ∷ [])
    told_core kind is =
        let code = byte bytes s 2 in
        let turn : byte bytes s 1 ≡ 1 + length codes = omega (arith, p.turn kind, told.cores) in
        let inside : s.place + 3 ≤ length bytes = omega (arith, p.inside, (core_shape bytes s kind).long) in
        record {
          sound = told.sound;
          straight = λ l. absurd (omega (arith, l));
          bare = λ l. absurd (omega (arith, l));
          earlier = told.earlier;
          cores = omega (arith, told.cores, length_push codes code);
          few = p.few kind;
          each = λ c m. elim (Contains-push_cases codes code c m) [ inl h ↦ told.each c h | inr e ↦ subst IsCode e is ];
          going = λ n.
              told.going going
              ∙ more_cores (handler_records k) (join_records k) (core_records 1 codes) (drop s.place bytes) (core_record (byte bytes s 1) code) (drop (s.place + 3) bytes)
              (pair_there bytes s 3 kind inside) (core_records 1 (codes ++ code ∷ []))
              (cores_push 1 codes code ∙ ap (λ c. core_records 1 codes ++ core_record c code) (sym turn));
          ended = λ e. absurd (omega (arith, e));
        }

    pub told_end : (kind_here bytes s ≡ 4) → Told (onward bytes s 0 4 s.first s.second s.cores) k codes
    told_end kind =
        let inside : s.place + 1 ≤ length bytes = omega (arith, p.inside, (end_shape bytes s kind).long) in
        record {
          sound = told.sound;
          straight = λ l. absurd (omega (arith, l));
          bare = λ l. absurd (omega (arith, l));
          earlier = told.earlier;
          cores = told.cores;
          few = told.few;
          each = told.each;
          going = λ n. absurd (n refl);
          ended = λ e. (p.all kind, told.going going ∙ ap (λ l. handler_records k ++ (join_records k ++ (core_records 1 codes ++ l))) (end_there bytes s kind inside));
        }
