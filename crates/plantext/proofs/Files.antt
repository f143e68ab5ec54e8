-- The file of a listing: it is never refused a buffer that has room for any, and stands at the front of it.
use Rattle.std.proofs.Common.{◌≡◌, ℕ, ◌≤◌, List, [], ◌∷◌, length, take, drop, map, Ok, Err, Result, inl, inr, ap, ◌∙◌, subst, take_at, arith}
use Rattle.std.specs.List.{Contains as Has}
use Rattle.gather.proofs.Counting.{has_cases}
use Rattle.plan.specs.Contents.{Contents, Sound}
use Rattle.plan.proofs.Tested.{passed}
use Rattle.policy.specs.declared.codes.Code.{Code}
use Rattle.policy.specs.Codes.{number_of, IsCode}
use Rattle.planfile.specs.declared.faults.Flaw.{Flaw}
use Rattle.planfile.specs.Files.{file_of}
use Rattle.planfile.specs.Theorems.{AreCodes, longest}
use Rattle.planfile.specs.Writes.{write_tests, Writes}
use Rattle.planfile.proofs.LengthsReached.{longest_file}

module _ (k : Contents) (codes was : List ℕ) (n : ℕ) (is : List ℕ) (w : Writes k codes was (Ok n) is) where
  abbrev file : List ℕ
  file = file_of k codes

  -- the front of what the buffer holds
  pub front_is_file : take n is ≡ file
  front_is_file =
      let answer : ◌≡◌ {A = Result ℕ Flaw} (Ok n) (Ok (length file)) = (passed (passed w.answers).1).1 in
      let as_long : n ≡ length file = cc in
      ap (take n) w.leaves ∙ take_at file (drop (length file) was) n (omega (arith, as_long))

-- a plan and codes are written where there is room for any file
pub never_refused : (k : Contents) (codes was : List ℕ) (f : Flaw) (is : List ℕ) → Sound k → AreCodes codes → longest ≤ length was → ¬ Writes k codes was (Err f) is
never_refused k codes was f is sound are room w = refused w.answers
  where
    refused : ¬ write_tests (file_of k codes) codes was (Err f)
    refused (inl ((c, there, no_code), e)) = no_code (are.each c there)
    refused (inr (each, inl (short, e))) = omega (arith, short, room, longest_file.none_longer k codes sound are)
    refused (inr (each, inr (fits, e))) = cc

-- the numbers of codes are codes
numbers_each : (codes : List Code) (n : ℕ) → Has (map number_of codes) n → IsCode n
numbers_each [] n m = absurd (omega (arith, m.1))
numbers_each (code ∷ codes) n m =
    elim (has_cases (number_of code) n (map number_of codes) m) [ inl e ↦ (code, e) | inr k ↦ numbers_each codes n k ]

pub are_codes : (codes : List Code) (numbers : List ℕ) → numbers ≡ map number_of codes → length numbers ≡ 8 → AreCodes numbers
are_codes codes numbers e eight = record { eight = eight; each = λ n m. numbers_each codes n (subst (λ l. Has l n) e m) }
