-- Mixtures of calls on one plan, checks among them: what they ask, what they answer, and when two are alike.
use Rattle.std.specs.Prelude.{◌≡◌, ℕ, ◌↔◌, List, [], ◌∷◌, ◌++◌, map, length, Ok, Err, Result}
use Rattle.std.specs.List.{Contains as Has}
use Rattle.policy.specs.Laws.{Choice, IsLawfulChoice}
use Rattle.plan.specs.declared.handlers.Handler.{Handler}
use Rattle.plan.specs.declared.refusals.Refusal.{Refusal}
use Rattle.plan.specs.Rows.{FitsWords}
use Rattle.plan.specs.Contents.{Contents, empty}
use Rattle.plan.specs.Calls.{seated}
use Rattle.plan.specs.Histories.{Call, registered, joined, reseated}
use Rattle.plan.specs.Histories.{Makes as Changes}
use Rattle.model.specs.declared.verdicts.Verdict.{Verdict}
use Rattle.model.specs.Checks.{Tables, Checks}

-- ---- calls, one after another

-- a call with its answer: a register, join or reseat; or a check under a discipline, with the tables before and after it
pub data Event : Type 0 where
  changes : Call → Event
  checks : Choice → Tables → Result Verdict Refusal → Tables → Event

-- the call, made on a plan that holds k, leaves it with next; a check is made under a lawful discipline, and leaves the plan alone
abbrev pub Makes : Contents → Event → Contents → Type 0
Makes k (changes call) next = Changes k call next
Makes k (checks D was r is) next = IsLawfulChoice D × Checks k D was r is × (next ≡ k)

-- these calls, made one after another on a new plan, leave it with k
pub data After : List Event → Contents → Type 0 where
  new : After [] empty
  then : {events : List Event} {k next : Contents} (event : Event) → After events k → Makes k event next → After (events ++ event ∷ []) next

-- a mixture of calls, the first on a new plan, and what it leaves the plan with
pub record History : Type 0 where
  pub events : List Event
  pub left : Contents
  pub after : After events left

-- one of these calls is this one, and the plan held k when it was made
pub record Among (events : List Event) (k : Contents) (event : Event) : Type 0 where
  pub before : List Event
  pub rest : List Event
  pub whole : events ≡ before ++ event ∷ rest
  pub held : After before k

-- ---- questions and answers

-- what a call asks: all its arguments but the plan, and of tables the row counts alone
pub data Question : Type 0 where
  registering : Handler → Question
  joining : ℕ → ℕ → Question
  seating : ℕ → ℕ → Question
  checking : Choice → ℕ → ℕ → ℕ → Question

abbrev pub question : Event → Question
question (changes (registered h r)) = registering h
question (changes (joined a b r)) = joining a b
question (changes (reseated n c r)) = seating n c
question (checks D was r is) = checking D (length was.front) (length was.back) (length was.marks)

-- what can be asked: of a handler, one in numbers of 16 bits, as every one that can be passed; and
-- of a check, one under a lawful discipline
abbrev pub Lawful : Question → Type 0
Lawful (registering h) = FitsWords h
Lawful (joining a b) = Unit {0}
Lawful (seating n c) = Unit {0}
Lawful (checking D front back marks) = IsLawfulChoice D

-- what a call answers
pub data Answer : Type 0 where
  numbers : Result ℕ Refusal → Answer
  accepts : Result (Unit {0}) Refusal → Answer
  finds : Result Verdict Refusal → Answer

abbrev pub answer : Event → Answer
answer (changes (registered h r)) = numbers r
answer (changes (joined a b r)) = accepts r
answer (changes (reseated n c r)) = accepts r
answer (checks D was r is) = finds r

-- ---- what of a mixture is in the plan

-- the handler that a call registers, if it is accepted
abbrev pub registers : Event → List Handler
registers (changes (registered h (Ok n))) = h ∷ []
registers (changes (registered h (Err e))) = []
registers (changes (joined a b r)) = []
registers (changes (reseated n c r)) = []
registers (checks D was r is) = []

-- the handlers of the accepted registers, in their order
abbrev pub taken : List Event → List Handler
taken [] = []
taken (event ∷ events) = registers event ++ taken events

-- the numbers of a handler, without its core
abbrev pub but_core : Handler → Handler
but_core h = seated h 0

-- a join of a before b was accepted
abbrev pub JoinTaken : List Event → ℕ → ℕ → Type 0
JoinTaken events a b = Has events (changes (joined a b (Ok tt)))

-- the call is accepted, and puts the handler of number n on the core c
abbrev pub Seats : Event → ℕ → ℕ → Type 0
Seats (changes (registered h (Ok m))) n c = (m ≡ n) × (h.core ≡ c)
Seats (changes (registered h (Err e))) n c = ⊥
Seats (changes (joined a b r)) n c = ⊥
Seats (changes (reseated m d (Ok u))) n c = (m ≡ n) × (d ≡ c)
Seats (changes (reseated m d (Err e))) n c = ⊥
Seats (checks D was r is) n c = ⊥

-- c is the last core of the handler of number n: an accepted call put it there, and none after it put it on any
pub record LastCore (events : List Event) (n c : ℕ) : Type 0 where
  pub before : List Event
  pub event : Event
  pub rest : List Event
  pub whole : events ≡ before ++ event ∷ rest
  pub seats : Seats event n c
  pub last : (e : Event) → Has rest e → (d : ℕ) → ¬ Seats e n d

-- two mixtures are alike: in the accepted registers in their order, but for the cores; in the accepted joins as a set; and in the last cores
pub record Alike (events others : List Event) : Type 0 where
  pub registers : map but_core (taken events) ≡ map but_core (taken others)
  pub joins : (a b : ℕ) → JoinTaken events a b ↔ JoinTaken others a b
  pub cores : (n c : ℕ) → LastCore events n c ↔ LastCore others n c
