-- What is printed of a file comes back as that file.
use Rattle.std.proofs.Common.{◌≡◌, ℕ, suc, ◌≤◌, List, [], ◌∷◌, ◌++◌, length, sym, ap₂, ◌∙◌, inl, inr, subst, arith}
use Rattle.std.specs.List.{flat_map, Contains as Has}
use Rattle.std.specs.Str.Lines.{lines}
use Rattle.gather.proofs.Counting.{has_cases}
use Rattle.plan.specs.declared.handlers.Handler.{Handler}
use Rattle.plan.specs.Contents.{Contents, Sound}
use Rattle.plantext.specs.declared.listing.Listing.{Listing}
use Rattle.plantext.specs.Taking.{Lists}
use Rattle.planfile.specs.Files.{handler_record, handler_records, join_records, core_records, file_of}
use Rattle.planfile.specs.declared.faults.Fault.{Fault}
use Rattle.planfile.specs.Reads.{IsFile, IsRefused}
use Rattle.planfile.specs.Theorems.{AreBytes, AreCodes, FirstBytesDecide}
use Rattle.planfile.proofs.FiledRead.{parts}
use Rattle.planfile.proofs.FiledWritten.{files_are_written}
use Rattle.plantext.specs.Turned.{IsFileOf, IsTextOf, OfEveryInput}
use Rattle.plantext.specs.RoundTrips.{FitsLine, AllFitLines, IsReadBack, IsPrinted, ComesBack, longest_text}
use Rattle.plantext.specs.Texts.{text_of}
use Rattle.plantext.proofs.ListedWhole.{text_is_read_back}
use Rattle.plantext.proofs.LongestText.{text_fits}

-- two bytes are a number of 16 bits
records_fit : (hs : List Handler) (rest : List ℕ) → AreBytes (flat_map handler_record hs ++ rest) → (h : Handler) → Has hs h → FitsLine h
records_fit [] rest small h m = absurd (omega (arith, m.1))
records_fit (g ∷ hs) rest small h m =
    elim (has_cases g h hs m) [
      | inl e ↦
          subst FitsLine e
          (record {
            period = omega (arith, small 1);
            offset = omega (arith, small 3);
            shortest = omega (arith, small 5);
            longest = omega (arith, small 7);
          })
      | inr k ↦ records_fit hs rest (λ i. small (suc (suc (suc (suc (suc (suc (suc (suc (suc (suc i))))))))))) h k
    ]

-- the lines of a printed text make a listing, and no file but that of what was printed
module _ (text : List ℕ) (k : Contents) (codes : List ℕ) (is : IsPrinted text k codes) where
  back : IsReadBack k codes
  back = text_is_read_back k codes is.sound is.fit is.are

  pub printed_lists : (list : Listing) × Lists (lines text) list
  printed_lists = (back.some.0, subst (λ t. Lists (lines t) back.some.0) (sym is.is) ((back.same back.some.0).0 back.some.1))

  pub printed_file : (file : List ℕ) → IsFileOf (lines text) file → file ≡ file_of k codes
  printed_file file made =
      let holds = (back.same made.list).1 (subst (λ t. Lists (lines t) made.list) is.is made.lists) in
      made.file ∙ ap₂ file_of holds.plan holds.codes

-- the plan and codes of a file of bytes: their text fits the lines, and their file is those bytes
module _ (bytes : List ℕ) (small : AreBytes bytes) (k : Contents) (codes : List ℕ) (file : IsFile bytes k codes) where
  written : Sound k × AreCodes codes × (bytes ≡ file_of k codes)
  written = (files_are_written bytes small k codes).0 file

  fit : AllFitLines k
  fit =
      let whole = written.2 ∙ parts (handler_records k) (join_records k) (core_records 1 codes) (4 ∷ []) in
      records_fit k.handlers _ (subst AreBytes whole small)

  pub text_of_file_fits : length (text_of k codes) ≤ longest_text
  text_of_file_fits = text_fits k written.0 codes fit written.1

  pub comes_back : (text : List ℕ) → text ≡ text_of k codes → ComesBack bytes text
  comes_back text is back made =
      printed_file text k codes (record { sound = written.0; fit = fit; are = written.1; is = is }) back made ∙ sym written.2

-- what is answered of the first bytes of an input is answered of all of it
module _ (bytes : List ℕ) (small : AreBytes bytes) (decide : FirstBytesDecide) where
  pub text_of_every : (text : List ℕ) → IsTextOf bytes text → OfEveryInput bytes (λ input. IsTextOf input text)
  text_of_every text of n input enough read = record {
    contents = of.contents;
    codes = of.codes;
    file = decide.file n input enough (subst AreBytes (sym read) small) of.contents of.codes (subst (λ b. IsFile b of.contents of.codes) (sym read) of.file);
    is = of.is;
  }

  pub fault_of_every : (f : Fault) → IsRefused bytes f → OfEveryInput bytes (λ input. IsRefused input f)
  fault_of_every f refused n input enough read = decide.refused n input enough (subst AreBytes (sym read) small) f (subst (λ b. IsRefused b f) (sym read) refused)
