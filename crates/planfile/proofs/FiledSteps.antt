-- One record more of a file that is written is read.
use Rattle.std.proofs.Common.{◌≡◌, ℕ, suc, ◌+◌, ◌*◌, ◌/◌, ◌%◌, ◌<◌, ◌≤◌, List, [], ◌∷◌, ◌++◌, length, drop, Ok, sym, refl, ap, ap₂, ◌∙◌, subst, arith}
use Rattle.std.proofs.Math.Nat.{div-add-mod}
use Rattle.std.proofs.lemmas.List.{drop-drop, length-drop}
use Rattle.plan.specs.declared.handlers.Handler.{Handler}
use Rattle.policy.specs.Codes.{IsCode}
use Rattle.plan.specs.Contents.{Contents, count}
use Rattle.plan.specs.Calls.{added, Takes, Registers, with_join, MayJoin}
use Rattle.planfile.specs.declared.records.Record.{Record}
use Rattle.planfile.specs.declared.records.Record.TheVariants.{Handler as HandlerRecord, Join as JoinRecord, Core as CoreRecord, End}
use Rattle.planfile.specs.Files.{handler_record, join_record, core_record}
use Rattle.planfile.specs.Tests.{Standing, byte, word, kind_here, handler_here, record_here, Enters}
use Rattle.planfile.specs.Reads.{Reached, one_more}
use Rattle.planfile.proofs.FiledRecords.{byte_of, Sooner, Passes, past_all, Shape, onward, handler_shape, join_shape, core_shape, end_shape}
use Rattle.plan.proofs.Tested.{taken_registers, taken_joins}

-- ---- records

module _ (bytes : List ℕ) where
  -- the reader has come to s, the plan holds k, these codes have come, and this is left of the bytes
  pub record Left (s : Standing) (k : Contents) (codes left : List ℕ) : Type 0 where
    pub reached : Reached bytes s k codes
    pub rest : drop s.place bytes ≡ left

  -- left behind a record of n more bytes
  behind : (s : Standing) (left : List ℕ) (n : ℕ) → drop s.place bytes ≡ left → drop (s.place + suc n) bytes ≡ drop (suc n) left
  behind s left n e = sym (drop-drop (suc n) s.place bytes) ∙ ap (drop (suc n)) e

  pub enough : (s : Standing) (left : List ℕ) (n : ℕ) → drop s.place bytes ≡ left → n < length left → s.place + suc n ≤ length bytes
  enough s left n e l = omega (arith, length-drop s.place bytes, ap length e, l)

  -- the record that stands there is read, and enters
  read_on : (s t : Standing) (k next : Contents) (codes more : List ℕ) (n : ℕ) (r : Record) → Reached bytes s k codes → ¬ (s.kind ≡ 4)
      → Passes bytes s → Shape bytes s n r t → Enters k codes r (Ok tt) next more → Reached bytes t next more
  read_on s t k next codes more n r reached going p shape enters =
      subst (λ u. Reached bytes u next more) shape.after
      (one_more (record_here bytes s) reached (past_all bytes s going p) (subst (λ x. Enters k codes x (Ok tt) next more) (sym shape.entry) enters))

  module _ (s : Standing) (k : Contents) (codes rest : List ℕ) where
    pub handler_read : (h : Handler) → Left s k codes (handler_record h ++ rest) → s.kind ≤ 1 → Takes k h
        → Left (onward bytes s 9 1 s.first s.second s.cores) (added k h) codes rest
    handler_read h l low takes =
        let left = handler_record h ++ rest in
        let b = byte_of bytes s left l.rest in
        let kind : kind_here bytes s ≡ 1 = b 0 in
        let shape = handler_shape bytes s kind in
        let word_is : (i n : ℕ) → byte bytes s i ≡ n / 256 → byte bytes s (suc i) ≡ n % 256 → word bytes s i ≡ n =
        λ i n x y. ap₂ (λ u v. 256 * u + v) x y ∙ div-add-mod n 256 in
        let same : handler_here bytes s ≡ h =
        rw (word_is 1 h.period (b 1) (b 2), word_is 3 h.offset (b 3) (b 4), word_is 5 h.shortest (b 5) (b 6), word_is 7 h.longest (b 7) (b 8), b 9) refl in
        record {
          reached =
              read_on s (onward bytes s 9 1 s.first s.second s.cores) k (added k h) codes codes 9 (HandlerRecord (handler_here bytes s)) l.reached (λ e. omega (arith, e, low))
              (record {
                some = omega (arith, kind);
                known = omega (arith, kind);
                rises = omega (arith, kind, low);
                few = λ e. omega (arith, e, kind);
                all = λ e. absurd (omega (arith, e, kind));
                inside = rw shape.long (enough s left 9 l.rest (omega arith));
                later = λ e was. absurd (omega (arith, e, kind));
                turn = λ e. absurd (omega (arith, e, kind));
              })
              shape (Ok (count k + 1), subst (λ x. Registers k x (Ok (count k + 1)) (added k h)) (sym same) (taken_registers k h takes), refl, refl);
          rest = behind s left 9 l.rest;
        }

    pub join_read : (a b : ℕ) → Left s k codes (join_record a b ++ rest) → s.kind ≤ 2 → Sooner s.first s.second a b → MayJoin k a b
        → Left (onward bytes s 2 2 a b s.cores) (with_join k a b) codes rest
    join_read a b l low later may =
        let left = join_record a b ++ rest in
        let at = byte_of bytes s left l.rest in
        let kind : kind_here bytes s ≡ 2 = at 0 in
        let first : byte bytes s 1 ≡ a = at 1 in
        let second : byte bytes s 2 ≡ b = at 2 in
        let shape : Shape bytes s 2 (JoinRecord a b) (onward bytes s 2 2 a b s.cores) =
        subst (λ x. Shape bytes s 2 (JoinRecord x b) (onward bytes s 2 2 x b s.cores)) first
        (subst (λ y. Shape bytes s 2 (JoinRecord (byte bytes s 1) y) (onward bytes s 2 2 (byte bytes s 1) y s.cores)) second (join_shape bytes s kind)) in
        record {
          reached =
              read_on s (onward bytes s 2 2 a b s.cores) k (with_join k a b) codes codes 2 (JoinRecord a b) l.reached (λ e. omega (arith, e, low))
              (record {
                some = omega (arith, kind);
                known = omega (arith, kind);
                rises = omega (arith, kind, low);
                few = λ e. omega (arith, e, kind);
                all = λ e. absurd (omega (arith, e, kind));
                inside = rw shape.long (enough s left 2 l.rest (omega arith));
                later = λ e was. rw (first, second) later;
                turn = λ e. absurd (omega (arith, e, kind));
              })
              shape (Ok tt, taken_joins k a b may, refl, refl);
          rest = behind s left 2 l.rest;
        }

    pub core_read : (code : ℕ) → Left s k codes (core_record (suc s.cores) code ++ rest) → s.kind ≤ 3 → s.cores < 8 → IsCode code
        → Left (onward bytes s 2 3 s.first s.second (suc s.cores)) k (codes ++ code ∷ []) rest
    core_read code l low few is =
        let left = core_record (suc s.cores) code ++ rest in
        let at = byte_of bytes s left l.rest in
        let kind : kind_here bytes s ≡ 3 = at 0 in
        let shape = core_shape bytes s kind in
        record {
          reached =
              read_on s (onward bytes s 2 3 s.first s.second (suc s.cores)) k k codes (codes ++ code ∷ []) 2 (CoreRecord (byte bytes s 1) (byte bytes s 2)) l.reached
              (λ e. omega (arith, e, low))
              (record {
                some = omega (arith, kind);
                known = omega (arith, kind);
                rises = omega (arith, kind, low);
                few = λ e. few;
                all = λ e. absurd (omega (arith, e, kind));
                inside = rw shape.long (enough s left 2 l.rest (omega arith));
                later = λ e was. absurd (omega (arith, e, kind));
                turn = λ e. at 1;
              })
              shape (subst (λ c. IsCode c × (codes ++ code ∷ [] ≡ codes ++ c ∷ [])) (sym (at 2)) (is, refl), refl);
          rest = behind s left 2 l.rest;
        }

    pub end_read : Left s k codes (4 ∷ rest) → ¬ (s.kind ≡ 4) → s.kind ≤ 4 → 8 ≤ s.cores → Left (onward bytes s 0 4 s.first s.second s.cores) k codes rest
    end_read l going low all =
        let left = 4 ∷ rest in
        let kind : kind_here bytes s ≡ 4 = byte_of bytes s left l.rest 0 in
        let shape = end_shape bytes s kind in
        record {
          reached =
              read_on s (onward bytes s 0 4 s.first s.second s.cores) k k codes codes 0 End l.reached going
              (record {
                some = omega (arith, kind);
                known = omega (arith, kind);
                rises = omega (arith, kind, low);
                few = λ e. absurd (omega (arith, e, kind));
                all = λ e. all;
                inside = rw shape.long (enough s left 0 l.rest (omega arith));
                later = λ e was. absurd (omega (arith, e, kind));
                turn = λ e. absurd (omega (arith, e, kind));
              })
              shape (refl, refl, refl);
          rest = behind s left 0 l.rest;
        }
