-- Reading a whole file.
use Rattle.std.specs.Prelude.{◌≡◌, ℕ, ◌⊎◌, List, [], Some, None, Ok, Err, Result}
use Rattle.plan.specs.Contents.{Contents, empty}
use Rattle.planfile.specs.declared.faults.Cause.{Cause}
use Rattle.planfile.specs.declared.faults.Fault.{Fault}
use Rattle.planfile.specs.declared.records.Record.{Record}
use Rattle.planfile.specs.Tests.{Standing, outset, past, NextIs, Enters}

-- after these records of the bytes, one after another into an empty plan, the reader stands at s, the plan holds k, and these codes have come
pub data Reached (bytes : List ℕ) : Standing → Contents → List ℕ → Type 0 where
  none : Reached bytes outset empty []
  one_more : {s : Standing} {k next : Contents} {codes more : List ℕ} (r : Record) → Reached bytes s k codes → NextIs bytes s (Ok (Some r))
      → Enters k codes r (Ok tt) next more → Reached bytes (past bytes s) next more

-- the bytes are a file, with no record after its end: of a plan that holds k, with these codes
pub record IsFile (bytes : List ℕ) (k : Contents) (codes : List ℕ) : Type 0 where
  pub stands : Standing
  pub reached : Reached bytes stands k codes
  pub ended : NextIs bytes stands (Ok None)

-- the next record fails a test of the file, or a byte stands behind the end record
pub record FailsNext (bytes : List ℕ) (f : Fault) : Type 0 where
  pub stands : Standing
  pub contents : Contents
  pub codes : List ℕ
  pub reached : Reached bytes stands contents codes
  pub next : NextIs bytes stands (Err f)

-- the next record fails a test of the plan, or has a code that is none
pub record FailsEntry (bytes : List ℕ) (f : Fault) : Type 0 where
  pub stands : Standing
  pub contents : Contents
  pub codes : List ℕ
  pub reached : Reached bytes stands contents codes
  pub entry : Record
  pub next : NextIs bytes stands (Ok (Some entry))
  pub cause : Cause
  pub enters : Enters contents codes entry (Err cause) contents codes
  pub fault : f ≡ record { cause = cause; place = stands.place }

-- the bytes are refused for this, by the first test that fails
abbrev pub IsRefused : List ℕ → Fault → Type 0
IsRefused bytes f = FailsNext bytes f ⊎ FailsEntry bytes f

-- what reading the bytes answers, and what it leaves: of a plan that held k, and of the codes
abbrev pub Reads : List ℕ → Result (Unit {0}) Fault → Contents → List ℕ → Contents → List ℕ → Type 0
Reads bytes (Ok x) k codes next more = IsFile bytes next more
Reads bytes (Err f) k codes next more = IsRefused bytes f × (next ≡ k) × (more ≡ codes)
