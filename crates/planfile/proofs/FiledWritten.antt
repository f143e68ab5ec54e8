-- Bytes are a file exactly where they are the file that is written of its plan and codes.
use Rattle.std.proofs.Common.{◌≡◌, ℕ, suc, List, [], ◌∷◌, ◌++◌, drop, Some, Ok, sym, ap, ◌∙◌, subst, inl, inr, arith}
use Rattle.std.proofs.lemmas.Bool.{cases_eq}
use Rattle.std.proofs.lemmas.List.{drop_all}
use Rattle.plan.specs.Contents.{Contents, Sound}
use Rattle.plan.specs.Calls.{added, with_join}
use Rattle.planfile.specs.declared.records.Record.{Record}
use Rattle.planfile.specs.declared.records.Record.TheVariants.{Handler as HandlerRecord, Join as JoinRecord, Core as CoreRecord, End}
use Rattle.planfile.specs.Files.{handler_records, join_records, core_records, file_of}
use Rattle.planfile.specs.Tests.{Standing, byte, kind_here, handler_here, record_here, past, NextIs, Enters}
use Rattle.planfile.specs.Reads.{Reached, none, one_more, IsFile}
use Rattle.planfile.specs.Theorems.{AreBytes, AreCodes, FilesAreWritten}
use Rattle.planfile.proofs.FiledEntries.{ok_one}
use Rattle.planfile.proofs.FiledBytes.{handler_fits}
use Rattle.planfile.proofs.FiledRecords.{Passes, before_end, at_end, passes, entry_is, Shape, onward, handler_shape, join_shape, core_shape, end_shape}
use Rattle.planfile.proofs.FiledTold.{taken, joined, Told, told_first, told_handler, told_join, told_core, told_end}
use Rattle.planfile.proofs.FiledRead.{parts, written_is_read}

module _ (bytes : List ℕ) (small : AreBytes bytes) where
  module _ (s : Standing) (k next : Contents) (codes more : List ℕ) (r : Record) (told : Told bytes small s k codes) (is : NextIs bytes s (Ok (Some r)))
      (enters : Enters k codes r (Ok tt) next more) where
    p : Passes bytes s
    p = passes bytes s r is

    going : ¬ (s.kind ≡ 4)
    going = (before_end bytes s r is).0

    -- the record that enters, by its kind
    enters_as : (n : ℕ) (x : Record) (t : Standing) → Shape bytes s n x t → Enters k codes x (Ok tt) next more
    enters_as n x t shape = subst (λ y. Enters k codes y (Ok tt) next more) (ok_one (record_here bytes s) r (entry_is bytes s r is) ∙ shape.entry) enters

    moved : (t : Standing) (l : Contents) (c : List ℕ) → past bytes s ≡ t → next ≡ l → more ≡ c → Told bytes small t l c
        → Told bytes small (past bytes s) next more
    moved t l c et el ec x =
        subst (λ t. Told bytes small t next more) (sym et) (subst (λ l. Told bytes small t l more) (sym el) (subst (λ c. Told bytes small t l c) (sym ec) x))

    told_next : Told bytes small (past bytes s) next more
    told_next =
        elim (cases_eq (kind_here bytes s) 1) [
          | inl e ↦ handler e
          | inr one ↦
              (elim (cases_eq (kind_here bytes s) 2) [
                | inl e ↦ join e
                | inr two ↦ (elim (cases_eq (kind_here bytes s) 3) [ inl e ↦ core e | inr three ↦ end (omega (arith, one, two, three, p.some, p.known)) ])
              ])
        ]
      where
        handler : kind_here bytes s ≡ 1 → Told bytes small (past bytes s) next more
        handler e =
            let h = handler_here bytes s in
            let t = onward bytes s 9 1 s.first s.second s.cores in
            let shape = handler_shape bytes s e in
            let m = enters_as 9 (HandlerRecord h) t shape in
            let q = taken k next h m.0 (handler_fits bytes s small) m.1 m.2 in
            moved t (added k h) codes shape.after q.1 m.3 (told_handler bytes small s k codes told going p e q.0)

        join : kind_here bytes s ≡ 2 → Told bytes small (past bytes s) next more
        join e =
            let a = byte bytes s 1 in
            let b = byte bytes s 2 in
            let t = onward bytes s 2 2 a b s.cores in
            let shape = join_shape bytes s e in
            let m = enters_as 2 (JoinRecord a b) t shape in
            let q = joined k next a b m.0 m.1 m.2 in
            moved t (with_join k a b) codes shape.after q.1 m.3 (told_join bytes small s k codes told going p e q.0)

        core : kind_here bytes s ≡ 3 → Told bytes small (past bytes s) next more
        core e =
            let code = byte bytes s 2 in
            let t = onward bytes s 2 3 s.first s.second (suc s.cores) in
            let shape = core_shape bytes s e in
            let m = enters_as 2 (CoreRecord (byte bytes s 1) code) t shape in
            moved t k (codes ++ code ∷ []) shape.after m.1 m.0.1 (told_core bytes small s k codes told going p e m.0.0)

        end : kind_here bytes s ≡ 4 → Told bytes small (past bytes s) next more
        end e =
            let t = onward bytes s 0 4 s.first s.second s.cores in
            let shape = end_shape bytes s e in
            let m = enters_as 0 End t shape in
            moved t k codes shape.after m.1 m.2 (told_end bytes small s k codes told going p e)

  pub told : {s : Standing} {k : Contents} {codes : List ℕ} → Reached bytes s k codes → Told bytes small s k codes
  told none = told_first bytes small
  told (one_more {s} {k} {next} {codes} {more} r before is enters) = told_next s k next codes more r (told before) is enters

  file_is_written : (k : Contents) (codes : List ℕ) → IsFile bytes k codes → Sound k × AreCodes codes × (bytes ≡ file_of k codes)
  file_is_written k codes f =
      let head = λ (l : List ℕ). handler_records k ++ (join_records k ++ (core_records 1 codes ++ l)) in
      let all = told f.reached in
      let e = at_end bytes f.stands f.ended in
      let last = all.ended e.0 in
      let nothing : drop f.stands.place bytes ≡ [] = drop_all f.stands.place bytes e.1 in (
        all.sound,
        record { eight = omega (arith, all.cores, all.few, last.0); each = all.each },
        last.1 ∙ ap (λ l. head (4 ∷ l)) nothing ∙ sym (parts (handler_records k) (join_records k) (core_records 1 codes) (4 ∷ [])),
      )

pub files_are_written : FilesAreWritten
files_are_written bytes small k codes =
    (file_is_written bytes small k codes, λ w. subst (λ l. IsFile l k codes) (sym w.2) (written_is_read k codes w.0 w.1))
