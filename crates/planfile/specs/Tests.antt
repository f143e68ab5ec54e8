-- What is tested of a file, record by record, for any bytes at all.
use Rattle.std.specs.Prelude.{◌≡◌, ◌≢◌, ℕ, suc, ◌+◌, ◌*◌, ◌<◌, ◌≤◌, ◌⊎◌, ◌==◌, if◌then◌else◌, List, [], ◌∷◌, ◌++◌, length, Some, None, Option, Ok, Err, Result, slice_index}
use Rattle.plan.specs.declared.handlers.Handler.{Handler}
use Rattle.plan.specs.declared.refusals.Refusal.{Refusal}
use Rattle.policy.specs.Codes.{IsCode}
use Rattle.plan.specs.Contents.{Contents}
use Rattle.plan.specs.Calls.{refuses, Registers, Joins}
use Rattle.planfile.specs.declared.faults.Flaw.{Flaw}
use Rattle.planfile.specs.declared.faults.Flaw.TheVariants.{Cut, UnknownKind, OutOfOrder, NoSuchCode}
use Rattle.planfile.specs.declared.faults.Cause.{Cause}
use Rattle.planfile.specs.declared.faults.Cause.TheVariants.{File, Plan}
use Rattle.planfile.specs.declared.faults.Fault.{Fault}
use Rattle.planfile.specs.declared.records.Record.{Record}
use Rattle.planfile.specs.declared.records.Record.TheVariants.{Handler as HandlerRecord, Join as JoinRecord, Core as CoreRecord, End}
use Rattle.planfile.specs.Files.{record_length}

-- ---- where a reader stands

-- how many bytes are read, and of the records read so far: the kind of the last, the last join, and how many cores there were; all 0 at first
pub record Standing : Type 0 where
  pub place : ℕ
  pub kind : ℕ
  pub first : ℕ
  pub second : ℕ
  pub cores : ℕ

abbrev pub outset : Standing
outset = record { place = 0; kind = 0; first = 0; second = 0; cores = 0 }

module _ (bytes : List ℕ) (s : Standing) where
  -- the byte at so many places after the kind byte
  abbrev pub byte : ℕ → ℕ
  byte i = slice_index bytes (s.place + i)

  -- the number of two bytes there, the high byte first
  abbrev pub word : ℕ → ℕ
  word i = 256 * byte i + byte (suc i)

  -- the kind byte of the next record
  abbrev pub kind_here : ℕ
  kind_here = byte 0

  -- ---- the tests of a record

  -- no byte is left
  abbrev pub AtEnd : Type 0
  AtEnd = length bytes ≤ s.place

  -- the kind is none of 1 to 4
  abbrev pub Unknown : Type 0
  Unknown = (kind_here ≡ 0) ⊎ (4 < kind_here)

  -- the kind falls, or is a ninth core, or is an end before the eighth core
  abbrev pub KindMisplaced : Type 0
  KindMisplaced = (kind_here < s.kind) ⊎ (((kind_here ≡ 3) × (8 ≤ s.cores)) ⊎ ((kind_here ≡ 4) × (s.cores < 8)))

  -- the bytes end inside the record
  abbrev pub EndsInside : Type 0
  EndsInside = length bytes < s.place + record_length kind_here

  -- the join does not come after the one before it, if there is one, or the core is not the next one
  abbrev pub BodyMisplaced : Type 0
  BodyMisplaced =
      ((kind_here ≡ 2) × (s.kind ≡ 2) × ((byte 1 < s.first) ⊎ ((byte 1 ≡ s.first) × (byte 2 ≤ s.second))))
      ⊎ ((kind_here ≡ 3) × (byte 1 ≢ suc s.cores))

  -- ---- the record, and where the reader stands after it

  abbrev pub handler_here : Handler
  handler_here = record { period = word 1; offset = word 3; shortest = word 5; longest = word 7; core = byte 9 }

  abbrev pub record_here : Record
  record_here =
      if kind_here == 1 then HandlerRecord handler_here
      else (if kind_here == 2 then JoinRecord (byte 1) (byte 2) else (if kind_here == 3 then CoreRecord (byte 1) (byte 2) else End))

  -- past the record
  abbrev pub past : Standing
  past = record {
    place = s.place + record_length kind_here;
    kind = kind_here;
    first = if kind_here == 2 then byte 1 else s.first;
    second = if kind_here == 2 then byte 2 else s.second;
    cores = if kind_here == 3 then suc s.cores else s.cores;
  }

-- ---- the tests, in their order

-- a fault of the file at the place where the reader stands
abbrev pub flaw : Standing → Flaw → Fault
flaw s why = record { cause = File why; place = s.place }

-- what the next record is, or why it is none, where no end record came
abbrev pub RecordIs : List ℕ → Standing → Result (Option Record) Fault → Type 0
RecordIs bytes s =
    refuses (AtEnd bytes s) (flaw s Cut)
    (refuses (Unknown bytes s) (flaw s UnknownKind)
    (refuses (KindMisplaced bytes s) (flaw s OutOfOrder)
    (refuses (EndsInside bytes s) (flaw s Cut)
    (refuses (BodyMisplaced bytes s) (flaw s OutOfOrder)
    (λ r. r ≡ Ok (Some (record_here bytes s)))))))

-- behind the end record there is none: any byte there is out of order, whatever it is
abbrev pub NoMore : List ℕ → Standing → Result (Option Record) Fault → Type 0
NoMore bytes s = refuses (s.place < length bytes) (flaw s OutOfOrder) (λ r. r ≡ Ok None)

-- the next record, none behind the end, or why the bytes do not go on so
abbrev pub NextIs : List ℕ → Standing → Result (Option Record) Fault → Type 0
NextIs bytes s r = ((s.kind ≡ 4) × NoMore bytes s r) ⊎ ((s.kind ≢ 4) × RecordIs bytes s r)

-- ---- what a record makes of a plan and of the codes so far

-- the plan's own tests, as causes of a fault
abbrev pub of_plan : {A : Type 0} → Result A Refusal → Result (Unit {0}) Cause
of_plan (Ok x) = Ok tt
of_plan (Err e) = Err (Plan e)

-- a core's code: it is appended where it is one
abbrev pub CodeEnters : List ℕ → ℕ → Result (Unit {0}) Cause → List ℕ → Type 0
CodeEnters codes c (Ok x) next = IsCode c × (next ≡ codes ++ c ∷ [])
CodeEnters codes c (Err e) next = (¬ IsCode c) × (e ≡ File NoSuchCode) × (next ≡ codes)

-- entering the record into a plan that holds k, and into the codes so far, answers r and leaves them so
abbrev pub Enters : Contents → List ℕ → Record → Result (Unit {0}) Cause → Contents → List ℕ → Type 0
Enters k codes (HandlerRecord h) r next codes' = (q : Result ℕ Refusal) × Registers k h q next × (r ≡ of_plan q) × (codes' ≡ codes)
Enters k codes (JoinRecord a b) r next codes' = (q : Result (Unit {0}) Refusal) × Joins k a b q next × (r ≡ of_plan q) × (codes' ≡ codes)
Enters k codes (CoreRecord c code) r next codes' = CodeEnters codes code r codes' × (next ≡ k)
Enters k codes End r next codes' = (r ≡ Ok tt) × (next ≡ k) × (codes' ≡ codes)
