-- A mixture of calls with each kind of answer.
use Rattle.std.specs.Prelude.{◌≡◌, List, [], ◌∷◌, map, Ok, Err}
use Rattle.policy.specs.Codes.{coded}
use Rattle.policy.specs.Laws.{Choice}
use Rattle.plan.specs.declared.handlers.Handler.{Handler}
use Rattle.plan.specs.declared.refusals.Refusal.TheVariants.{NoPeriod, NoSuchHandler, Circle, UnfitTables}
use Rattle.model.specs.declared.verdicts.Rows.TheVariants.{Working, Marks}
use Rattle.model.specs.declared.verdicts.Verdict.TheVariants.{Kept, Missed, RowsShort}
use Rattle.samples.specs.Samples.{all_fixed}
use Rattle.model.specs.Histories.{History, Question, question, registering, joining, seating, checking, Answer, answer, numbers, accepts, finds}

-- fixed priority on every core
abbrev pub fixed : Choice
fixed = coded all_fixed

-- a handler on core 1 that works 1 of every 2 units, one that may work past its period, and one without a period
abbrev pub short : Handler
short = record { period = 2; offset = 0; shortest = 1; longest = 1; core = 1 }

abbrev pub long : Handler
long = record { period = 2; offset = 0; shortest = 1; longest = 3; core = 1 }

abbrev pub never : Handler
never = record { period = 0; offset = 0; shortest = 1; longest = 1; core = 1 }

-- what is asked, one call after another; a check with the row counts of its three tables
abbrev pub asks : List Question
asks =
    checking fixed 1 0 1
    ∷ checking fixed 0 0 1
    ∷ registering never
    ∷ registering short
    ∷ checking fixed 1 1 1
    ∷ checking fixed 1 1 0
    ∷ joining 1 1
    ∷ seating 2 2
    ∷ seating 1 2
    ∷ registering long
    ∷ joining 1 2
    ∷ checking fixed 3 3 1
    ∷ []

-- and what is answered
abbrev pub answers : List Answer
answers =
    finds (Err UnfitTables)
    ∷ finds (Ok (RowsShort Working 0))
    ∷ numbers (Err NoPeriod)
    ∷ numbers (Ok 1)
    ∷ finds (Ok (Kept 1 1))
    ∷ finds (Ok (RowsShort Marks 0))
    ∷ accepts (Err Circle)
    ∷ accepts (Err NoSuchHandler)
    ∷ accepts (Ok tt)
    ∷ numbers (Ok 2)
    ∷ accepts (Ok tt)
    ∷ finds (Ok (Missed 2 2))
    ∷ []

-- there is a history with each kind of answer: it asks and answers this
abbrev pub SomeHistoryHasEachKind : Type 0
SomeHistoryHasEachKind = (h : History) × (map question h.events ≡ asks) × (map answer h.events ≡ answers)
