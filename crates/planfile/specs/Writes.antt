-- Writing the file of a plan and the codes of its cores into a buffer.
use Rattle.std.specs.Prelude.{◌≡◌, ℕ, ◌+◌, ◌-◌, ◌<◌, cond, List, [], ◌++◌, length, take, drop, Ok, Err, Result}
use Rattle.std.specs.List.{Contains as Has}
use Rattle.policy.specs.Codes.{IsCode}
use Rattle.plan.specs.Contents.{Contents, at, known}
use Rattle.plan.specs.Calls.{refuses}
use Rattle.planfile.specs.declared.faults.Flaw.{Flaw}
use Rattle.planfile.specs.declared.faults.Flaw.TheVariants.{NoSuchCode, NoRoom}
use Rattle.planfile.specs.Files.{handler_record, file_of}

-- one of the codes is none
abbrev pub HasNoCode : List ℕ → Type 0
HasNoCode codes = (c : ℕ) × Has codes c × (¬ IsCode c)

-- what is answered: the length of the file, or why it is not written
abbrev pub write_tests : List ℕ → List ℕ → List ℕ → Result ℕ Flaw → Type 0
write_tests file codes buffer =
    refuses (HasNoCode codes) NoSuchCode
    (refuses (length buffer < length file) NoRoom
    (λ r. r ≡ Ok (length file)))

-- what the buffer holds then: the file, and what stood behind it; or what it held
abbrev pub written : {A E : Type 0} → List ℕ → List ℕ → Result A E → List ℕ
written file was (Ok n) = file ++ drop (length file) was
written file was (Err e) = was

-- writing the file of a plan that holds k, with these codes, into a buffer answers r and leaves it so
pub record Writes (k : Contents) (codes was : List ℕ) (r : Result ℕ Flaw) (is : List ℕ) : Type 0 where
  pub answers : write_tests (file_of k codes) codes was r
  pub leaves : is ≡ written (file_of k codes) was r

-- ---- how it is written, record by record

-- these bytes stand in the buffer from the place on, the rest of it is as it was, and the next place is behind them
pub record Puts (was : List ℕ) (place : ℕ) (bytes : List ℕ) (next : ℕ) (is : List ℕ) : Type 0 where
  pub behind : next ≡ place + length bytes
  pub leaves : is ≡ take place was ++ bytes ++ drop (place + length bytes) was

-- the record of the handler of this number, if there is one
abbrev pub record_if_known : Contents → ℕ → List ℕ
record_if_known k n = cond (known k n) (handler_record (at k (n - 1))) []
