-- The first bytes decide how bytes are read: no reader comes further than the longest file, and one record.
use Rattle.std.proofs.Common.{◌≡◌, ℕ, ◌+◌, ◌*◌, ◌<◌, ◌≤◌, ◌⊎◌, Bool, true, false, List, ◌∷◌, ◌++◌, length, take, drop, min, Some, None, Option, Ok, Err, Result, refl, sym, ap, ◌∙◌, subst, inl, inr, length-append, arith}
use Rattle.std.specs.Prelude.{◌==◌, ◌||◌, if◌then◌else◌}
use Rattle.std.proofs.lemmas.Bool.{cases_eq}
use Rattle.std.proofs.lemmas.List.{get_or-take, length-take, length-drop}
use Rattle.plan.specs.Contents.{Contents, count}
use Rattle.planfile.specs.declared.faults.Fault.{Fault}
use Rattle.planfile.specs.declared.records.Record.{Record}
use Rattle.planfile.specs.Files.{record_length, handler_records, join_records, core_records}
use Rattle.planfile.specs.Tests.{Standing, byte, kind_here, AtEnd, Unknown, KindMisplaced, EndsInside, BodyMisplaced, record_here, past, NextIs}
use Rattle.planfile.specs.Reads.{Reached, none, one_more, IsFile, IsRefused}
use Rattle.planfile.specs.Theorems.{AreBytes, longest, FirstBytesDecide}
use Rattle.planfile.proofs.FiledRecords.{passes}
use Rattle.planfile.proofs.FiledWritten.{told}
use Rattle.planfile.proofs.Lengths.{handlers_length, cores_length, most_joins}

-- ---- how far a reader comes

inside : (bytes : List ℕ) {s : Standing} {k : Contents} {codes : List ℕ} → Reached bytes s k codes → s.place ≤ length bytes
inside bytes none = omega arith
inside bytes (one_more {s} r before is enters) = (passes bytes s r is).inside

-- what is read so far, and what is left
split : (bytes : List ℕ) (k : Contents) (codes rest : List ℕ) → bytes ≡ handler_records k ++ (join_records k ++ (core_records 1 codes ++ rest))
    → length bytes ≡ 10 * count k + length (join_records k) + 3 * length codes + length rest
split bytes k codes rest e =
    omega (
      arith,
      ap length e,
      length-append (handler_records k) (join_records k ++ (core_records 1 codes ++ rest)),
      length-append (join_records k) (core_records 1 codes ++ rest),
      length-append (core_records 1 codes) rest,
      handlers_length k.handlers,
      cores_length 1 codes,
    )

module _ (bytes : List ℕ) (small : AreBytes bytes) {s : Standing} {k : Contents} {codes : List ℕ} (reached : Reached bytes s k codes) where
  low : s.place ≤ longest
  low =
      let t = told bytes small reached in
      elim (cases_eq s.kind 4) [
        | inl end ↦
            omega (arith, split bytes k codes (4 ∷ drop s.place bytes) (t.ended end).1, inside bytes reached, length-drop s.place bytes, most_joins k t.sound, t.sound.few, t.cores, t.few)
        | inr going ↦
            omega (arith, split bytes k codes (drop s.place bytes) (t.going going), inside bytes reached, length-drop s.place bytes, most_joins k t.sound, t.sound.few, t.cores, t.few)
      ]

-- ---- what is read of the first bytes is read of all

-- the same test, and what comes after it
over : (P Q : Type 0) {E X Y : Type 0} → (P → Q) → (Q → P) → (X → Y) → (P × E) ⊎ ((P → ⊥) × X) → (Q × E) ⊎ ((Q → ⊥) × Y)
over P Q there back rest (inl (p, e)) = inl (there p, e)
over P Q there back rest (inr (not, after)) = inr (λ q. not (back q), rest after)

-- no record is longer than that of a handler
longest_record : (kind : ℕ) → record_length kind ≤ 10
longest_record kind = go (kind == 1) (kind == 2 || kind == 3)
  where
    go : (a b : Bool) → (if a then 10 else (if b then 3 else 1)) ≤ 10
    go true b = omega arith
    go false true = omega arith
    go false false = omega arith

module _ (n : ℕ) (bytes : List ℕ) (enough : longest + record_length 1 ≤ n) where
  abbrev front : List ℕ
  front = take n bytes

  front_length : length front ≡ min n (length bytes)
  front_length = length-take n bytes

  module _ (s : Standing) (near : s.place ≤ longest) where
    same : (i : ℕ) → i ≤ 9 → byte front s i ≡ byte bytes s i
    same i l = get_or-take n bytes (s.place + i) 0 (omega (arith, near, l, enough))

    kind : kind_here front s ≡ kind_here bytes s
    kind = same 0 (omega arith)

    same_record : record_here front s ≡ record_here bytes s
    same_record =
        rw (same 0 (omega arith), same 1 (omega arith), same 2 (omega arith), same 3 (omega arith), same 4 (omega arith), same 5 (omega arith), same 6 (omega arith), same 7 (omega arith), same 8 (omega arith), same 9 (omega arith)) refl

    same_past : past front s ≡ past bytes s
    same_past = rw (same 0 (omega arith), same 1 (omega arith), same 2 (omega arith)) refl

    small : record_length (kind_here bytes s) ≤ 10
    small = longest_record (kind_here bytes s)

    same_length : record_length (kind_here front s) ≡ record_length (kind_here bytes s)
    same_length = ap record_length kind

    same_next : (r : Result (Option Record) Fault) → NextIs front s r → NextIs bytes s r
    same_next r (inl (ended, no_more)) =
        inl (
          ended,
          over (s.place < length front) (s.place < length bytes)
              (λ l. omega (arith, l, front_length))
              (λ l. omega (arith, l, front_length, near, enough))
              (λ e. e) no_more,
        )
    same_next r (inr (going, next)) =
        inr (
          going,
          over (AtEnd front s) (AtEnd bytes s) (λ l. omega (arith, l, front_length, near, enough)) (λ l. omega (arith, l, front_length, near, enough))
              (over (Unknown front s) (Unknown bytes s) (λ u. rw (← kind) u) (λ u. rw kind u)
              (over (KindMisplaced front s) (KindMisplaced bytes s) (λ u. rw (← kind) u) (λ u. rw kind u)
              (over (EndsInside front s) (EndsInside bytes s)
              (λ l. omega (arith, l, front_length, near, enough, same_length, small))
              (λ l. omega (arith, l, front_length, near, enough, same_length, small))
              (over (BodyMisplaced front s) (BodyMisplaced bytes s)
              (λ u. rw (← kind, ← same 1 (omega arith), ← same 2 (omega arith)) u)
              (λ u. rw (kind, same 1 (omega arith), same 2 (omega arith)) u)
              (λ e. e ∙ ap (λ x. Ok (Some x)) same_record))))) next,
        )

  module _ (small : AreBytes front) where
    moved : {s : Standing} {k : Contents} {codes : List ℕ} → Reached front s k codes → Reached bytes s k codes
    moved none = none
    moved (one_more {s} {k} {next} {codes} {more} r before is enters) =
        let near = low front small before in
        subst (λ t. Reached bytes t next more) (sym (same_past s near)) (one_more r (moved before) (same_next s near (Ok (Some r)) is) enters)

    file : (k : Contents) (codes : List ℕ) → IsFile front k codes → IsFile bytes k codes
    file k codes f = record {
      stands = f.stands;
      reached = moved f.reached;
      ended = same_next f.stands (low front small f.reached) (Ok None) f.ended;
    }

    refused : (f : Fault) → IsRefused front f → IsRefused bytes f
    refused f (inl g) =
        inl record {
          stands = g.stands;
          contents = g.contents;
          codes = g.codes;
          reached = moved g.reached;
          next = same_next g.stands (low front small g.reached) (Err f) g.next;
        }
    refused f (inr g) =
        inr record {
          stands = g.stands;
          contents = g.contents;
          codes = g.codes;
          reached = moved g.reached;
          entry = g.entry;
          next = same_next g.stands (low front small g.reached) (Ok (Some g.entry)) g.next;
          cause = g.cause;
          enters = g.enters;
          fault = g.fault;
        }

pub first_bytes_decide : FirstBytesDecide
first_bytes_decide = record { file = file; refused = refused }
