-- What is proved of files.
use Rattle.std.specs.Prelude.{◌≡◌, ℕ, ◌+◌, ◌<◌, ◌≤◌, ◌↔◌, List, length, take, slice_index}
use Rattle.std.specs.List.{Contains as Has}
use Rattle.policy.specs.Codes.{IsCode}
use Rattle.plan.specs.Contents.{Contents, Sound}
use Rattle.planfile.specs.declared.faults.Fault.{Fault}
use Rattle.planfile.specs.Files.{record_length, file_of}
use Rattle.planfile.specs.Reads.{IsFile, IsRefused}

-- the list is of bytes
abbrev pub AreBytes : List ℕ → Type 0
AreBytes bytes = (i : ℕ) → slice_index bytes i < 256

-- eight codes
pub record AreCodes (codes : List ℕ) : Type 0 where
  pub eight : length codes ≡ 8
  pub each : (c : ℕ) → Has codes c → IsCode c

-- bytes are a file of a plan and codes exactly where they are the one that is written of them, and a plan can hold that
abbrev pub FilesAreWritten : Type 0
FilesAreWritten =
    (bytes : List ℕ) → AreBytes bytes → (k : Contents) (codes : List ℕ)
    → IsFile bytes k codes ↔ (Sound k × AreCodes codes × (bytes ≡ file_of k codes))

-- so what is written of a plan and codes is read back as they were
abbrev pub WrittenIsRead : Type 0
WrittenIsRead = (k : Contents) (codes : List ℕ) → Sound k → AreCodes codes → IsFile (file_of k codes) k codes

-- bytes are a file of one plan and its codes, or refused for one fault, and not both
pub record OneReading (bytes : List ℕ) : Type 0 where
  pub one_plan : (k l : Contents) (codes others : List ℕ) → IsFile bytes k codes → IsFile bytes l others → (l ≡ k) × (others ≡ codes)
  pub one_fault : (f g : Fault) → IsRefused bytes f → IsRefused bytes g → g ≡ f
  pub not_both : (k : Contents) (codes : List ℕ) (f : Fault) → IsFile bytes k codes → ¬ IsRefused bytes f

abbrev pub EveryFileIsReadOnce : Type 0
EveryFileIsReadOnce = (bytes : List ℕ) → OneReading bytes

-- no file is longer than this, and one is that long
abbrev pub longest : ℕ
longest = 6713

pub record LongestFile : Type 0 where
  pub none_longer : (k : Contents) (codes : List ℕ) → Sound k → AreCodes codes → length (file_of k codes) ≤ longest
  pub one_as_long : (k : Contents) × (codes : List ℕ) × Sound k × AreCodes codes × (length (file_of k codes) ≡ longest)

-- what the first bytes are read as, so many that there is room for one record more than in any file, all bytes are read as: nothing behind them is looked at
pub record FirstBytesDecide : Type 0 where
  pub file : (n : ℕ) (bytes : List ℕ) → longest + record_length 1 ≤ n → AreBytes (take n bytes) → (k : Contents) (codes : List ℕ) → IsFile (take n bytes) k codes → IsFile bytes k codes
  pub refused : (n : ℕ) (bytes : List ℕ) → longest + record_length 1 ≤ n → AreBytes (take n bytes) → (f : Fault) → IsRefused (take n bytes) f → IsRefused bytes f
