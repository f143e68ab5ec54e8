-- What is promised of checks, and of every call, in any mixture of calls on a plan.
use Rattle.std.specs.Prelude.{◌≡◌, ℕ, ◌+◌, List, ◌∷◌, ◌++◌, map, length, Ok, Result}
use Rattle.policy.specs.Laws.{Choice, IsLawfulChoice}
use Rattle.plan.specs.declared.handlers.Handler.{Handler}
use Rattle.plan.specs.declared.refusals.Refusal.{Refusal}
use Rattle.plan.specs.Contents.{Contents}
use Rattle.plan.specs.Histories.{registered}
use Rattle.model.specs.declared.verdicts.Verdict.{Verdict}
use Rattle.model.specs.Checks.{Tables, Checks}
use Rattle.model.specs.Outcomes.{VerdictHolds}
use Rattle.model.specs.Histories.{Event, changes, checks, Makes, After, History, Among, Question, question, Lawful, answer, taken, Alike}

-- ---- checks

-- the verdict of each check in a history holds of all runs of the plan, as it then stood
abbrev pub VerdictsHold : Type 0
VerdictsHold =
    (h : History) (k : Contents) (D : Choice) (was is : Tables) (v : Verdict)
    → Among h.events k (checks D was (Ok v) is) → VerdictHolds k D was is v

-- ---- every call

-- each call of a history was made on what the calls before it left, and made as the abstract plan makes it
abbrev pub CallsFit : Type 0
CallsFit =
    (h : History) (before rest : List Event) (event : Event) → h.events ≡ before ++ event ∷ rest
    → (k : Contents) × (next : Contents) × After before k × Makes k event next × ((l : Contents) → After before l → l ≡ k)

-- histories that ask the same answer the same, and leave the same plan
abbrev pub QuestionsDecide : Type 0
QuestionsDecide =
    (h g : History) → map question h.events ≡ map question g.events
    → (map answer h.events ≡ map answer g.events) × (h.left ≡ g.left)

-- every history can go on with any call, and a check with any tables, and has an answer to it
pub record EveryCallAnswers : Type 0 where
  pub calls : (h : History) (q : Question) → Lawful q → (event : Event) × (next : Contents) × (question event ≡ q) × Makes h.left event next
  pub any_tables : (h : History) (D : Choice) (was : Tables) → IsLawfulChoice D → (r : Result Verdict Refusal) × (is : Tables) × Makes h.left (checks D was r is) h.left

-- the n-th accepted register answers n
abbrev pub RegistersCount : Type 0
RegistersCount =
    (h : History) (before rest : List Event) (x : Handler) (n : ℕ)
    → h.events ≡ before ++ changes (registered x (Ok n)) ∷ rest → n ≡ length (taken before) + 1

-- alike histories leave the same plan; so checks after them with equal row counts under one discipline answer the same
abbrev pub AlikeChecksAnswerAlike : Type 0
AlikeChecksAnswerAlike =
    (h g : History) → Alike h.events g.events
    → (h.left ≡ g.left)
    × ((D : Choice) (was is other left : Tables) (r s : Result Verdict Refusal)
    → Checks h.left D was r is → Checks g.left D other s left
    → length was.front ≡ length other.front → length was.back ≡ length other.back → length was.marks ≡ length other.marks → r ≡ s)

-- ---- all of it

pub record ChecksCanBeTrusted : Type 0 where
  pub verdicts_hold : VerdictsHold
  pub calls_fit : CallsFit
  pub questions_decide : QuestionsDecide
  pub every_call_answers : EveryCallAnswers
  pub registers_count : RegistersCount
  pub alike_checks_answer_alike : AlikeChecksAnswerAlike
