-- What is written of a plan and codes is read back as they were.
use Rattle.std.proofs.Common.{◌≡◌, ℕ, suc, List, [], ◌∷◌, ◌++◌, sym, refl, ◌∙◌, subst, arith}
use Rattle.std.proofs.lemmas.List.{append_assoc}
use Rattle.planfile.specs.Files.{handler_records, join_records, core_records, file_of}
use Rattle.planfile.specs.Tests.{outset}
use Rattle.planfile.specs.Reads.{none}
use Rattle.planfile.specs.Theorems.{WrittenIsRead}
use Rattle.planfile.proofs.FiledSteps.{Left}
use Rattle.planfile.proofs.FiledHandlers.{alone, Fresh, handlers_read}
use Rattle.planfile.proofs.FiledJoins.{joins_read}
use Rattle.planfile.proofs.FiledCores.{cores_read}

-- the parts of a file, from the first on
pub parts : (hs js cs rest : List ℕ) → hs ++ js ++ cs ++ rest ≡ hs ++ (js ++ (cs ++ rest))
parts hs js cs rest = append_assoc (hs ++ js) cs rest ∙ append_assoc hs js (cs ++ rest)

pub written_is_read : WrittenIsRead
written_is_read k codes sound are =
    let bytes = file_of k codes in
    let cores = core_records 1 codes ++ 4 ∷ [] in
    let begun : Left bytes outset (alone []) [] (handler_records k ++ (join_records k ++ cores)) =
    record { reached = none; rest = parts (handler_records k) (join_records k) (core_records 1 codes) (4 ∷ []) } in
    let fresh : Fresh outset = record { kind = omega arith; first = refl; second = refl; cores = refl } in
    let handled = handlers_read k sound bytes (join_records k ++ cores) (record { stands = outset; fresh = fresh; now = begun }) in
    let joined = joins_read k sound bytes cores handled in
    cores_read bytes k codes [] joined.stands (omega (arith, joined.kind)) (omega (arith, joined.cores, are.eight)) are.each
    (subst (λ n. Left bytes joined.stands k [] (core_records (suc n) codes ++ 4 ∷ [])) (sym joined.cores) joined.now)
