-- Calls in code, and what they ask and answer.
use Rattle.std.specs.Prelude.{◌≡◌, ℕ, ◌≤◌, List, map}
use Rattle.plan.specs.Contents.{Contents}
use Rattle.model.specs.Histories.{Event, Makes, After, question, answer}
use Rattle.model.specs.Histories.{Question, registering, joining, seating, checking}
use Rattle.model.specs.Histories.{numbers, accepts, finds}
use Rattle.model.specs.Histories.{Answer as Reply}
use Rattle.samples.specs.Example.{fixed}
use Rattle.samples.specs.declared.mixture.Call.{Call}
use Rattle.samples.specs.declared.mixture.Call.TheVariants.{Register, Join, Reseat, Check}
use Rattle.samples.specs.declared.mixture.Answer.{Answer}
use Rattle.samples.specs.declared.mixture.Answer.TheVariants.{Number, Done, Found}

-- what a call asks
abbrev pub asked : Call → Question
asked (Register h) = registering h
asked (Join a b) = joining a b
asked (Reseat n c) = seating n c
asked (Check rows) = checking fixed rows.front rows.back rows.marks

-- what an answer says
abbrev pub said : Answer → Reply
said (Number r) = numbers r
said (Done r) = accepts r
said (Found r) = finds r

-- registers a handler on core 1 that works from one unit on
abbrev pub on_core_one : ℕ → ℕ → Call
on_core_one period longest =
    Register (record { period = period; offset = 0; shortest = 1; longest = longest; core = 1 })

-- checks with tables of so many rows
abbrev pub check_with : ℕ → ℕ → ℕ → Call
check_with front back marks = Check (record { front = front; back = back; marks = marks })

-- the tables of a check have three rows or fewer
abbrev pub Fits : Call → Type 0
Fits (Register h) = Unit {0}
Fits (Join a b) = Unit {0}
Fits (Reseat n c) = Unit {0}
Fits (Check rows) = (rows.front ≤ 3) × (rows.back ≤ 3) × (rows.marks ≤ 3)

-- the question, put to a plan that holds k, is answered so and leaves it with next
pub record Answered (k : Contents) (q : Question) (a : Reply) (next : Contents) : Type 0 where
  pub event : Event
  pub asks : question event ≡ q
  pub answers : answer event ≡ a
  pub makes : Makes k event next

-- these questions, put to a new plan one after another, are answered so and leave it with k
pub record AllAnswered (qs : List Question) (rs : List Reply) (k : Contents) : Type 0 where
  pub events : List Event
  pub asks : map question events ≡ qs
  pub answers : map answer events ≡ rs
  pub after : After events k
