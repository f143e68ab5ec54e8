-- The records of the cores, and the end, are read.
use Rattle.std.proofs.Common.{◌≡◌, ℕ, suc, ◌+◌, ◌≤◌, List, [], ◌∷◌, ◌++◌, length, sym, refl, ap, subst, inl, inr, arith}
use Rattle.std.specs.List.{Contains as Has}
use Rattle.std.proofs.lemmas.List.{append_assoc, append-nil, length-drop}
use Rattle.gather.proofs.Counting.{has_here, has_there}
use Rattle.policy.specs.Codes.{IsCode}
use Rattle.plan.specs.Contents.{Contents}
use Rattle.planfile.specs.Files.{core_records}
use Rattle.planfile.specs.Tests.{Standing}
use Rattle.planfile.specs.Reads.{IsFile}
use Rattle.planfile.proofs.FiledRecords.{onward}
use Rattle.planfile.proofs.FiledSteps.{Left, core_read, end_read}

module _ (bytes : List ℕ) (k : Contents) where
  -- the end is read
  file_read : (s : Standing) (codes : List ℕ) → s.kind ≤ 3 → 8 ≤ s.cores → Left bytes s k codes (4 ∷ []) → IsFile bytes k codes
  file_read s codes low all l =
      let last = end_read bytes s k codes [] l (λ e. omega (arith, e, low)) (omega (arith, low)) all in
      record {
        stands = onward bytes s 0 4 s.first s.second s.cores;
        reached = last.reached;
        ended = inl (refl, inr (λ more. omega (arith, more, length-drop (s.place + 1) bytes, ap length last.rest), refl));
      }

  -- the codes to come are, and then the end
  pub cores_read : (todo done : List ℕ) (s : Standing) → s.kind ≤ 3 → s.cores + length todo ≡ 8 → ((c : ℕ) → Has todo c → IsCode c)
      → Left bytes s k done (core_records (suc s.cores) todo ++ 4 ∷ []) → IsFile bytes k (done ++ todo)
  cores_read [] done s low eight each l = subst (IsFile bytes k) (sym (append-nil done)) (file_read s done low (omega (arith, eight)) l)
  cores_read (code ∷ todo) done s low eight each l =
      subst (IsFile bytes k) (append_assoc done (code ∷ []) todo)
      (cores_read todo (done ++ code ∷ []) (onward bytes s 2 3 s.first s.second (suc s.cores)) (omega arith) (omega (arith, eight)) (λ c m. each c (has_there code c todo m))
      (core_read bytes s k done (core_records (suc (suc s.cores)) todo ++ 4 ∷ []) code l low (omega (arith, eight)) (each code (has_here code todo))))
