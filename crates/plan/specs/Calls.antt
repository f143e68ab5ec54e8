-- What the calls answer and leave, for every plan and all arguments.
use Rattle.std.specs.Prelude.{◌≡◌, ℕ, suc, ◌+◌, ◌-◌, ◌<◌, ◌≤◌, ◌&&◌, ◌||◌, ◌≢◌, ◌⊎◌, [], ◌∷◌, ◌++◌, Ok, Err, Result, ◌==◌, slice_set}
use Rattle.plan.specs.declared.handlers.Handler.{Handler}
use Rattle.plan.specs.declared.refusals.Refusal.{Refusal}
use Rattle.plan.specs.declared.refusals.Refusal.TheVariants.{PlanFull, NoPeriod, NoTimes, NoSuchCore, LongRound, NoSuchHandler, OtherTimes, Circle}
use Rattle.plan.specs.declared.plans.Plan.{Plan}
use Rattle.plan.specs.Rows.{IsInRange, longest_round}
use Rattle.plan.specs.Joins.{Chain}
use Rattle.plan.specs.Contents.{Contents, count, at, Known, round}

-- the call is refused for this where the test holds, and answers by the rest where it does not
abbrev pub refuses : {A E : Type 0} → Type 0 → E → (Result A E → Type 0) → Result A E → Type 0
refuses test why rest r = (test × (r ≡ Err why)) ⊎ ((test → ⊥) × rest r)

-- the call is accepted with this answer
abbrev pub accepts : {A : Type 0} → A → Result A Refusal → Type 0
accepts x r = r ≡ Ok x

-- what the plan holds after a call: `next` where it was accepted, and what it held where it was refused
abbrev pub after : {A : Type 0} → Contents → Contents → Result A Refusal → Contents
after k next (Ok _) = next
after k next (Err _) = k

-- a refused call leaves the plan as it was, to the last byte
abbrev pub Untouched : {A : Type 0} → Result A Refusal → Plan → Plan → Type 0
Untouched (Ok _) was is = Unit {0}
Untouched (Err _) was is = is ≡ was

-- ---- register

-- one handler more, at the end
abbrev pub added : Contents → Handler → Contents
added k h = record { handlers = k.handlers ++ h ∷ []; joined = k.joined }

-- the tests of a handler's own fields
abbrev pub field_tests : {A : Type 0} → Handler → (Result A Refusal → Type 0) → Result A Refusal → Type 0
field_tests h rest =
    refuses (h.period ≡ 0) NoPeriod
    (refuses ((h.shortest ≡ 0) ⊎ (h.longest < h.shortest)) NoTimes
    (refuses ((h.core ≡ 0) ⊎ (8 < h.core)) NoSuchCore
    rest))

-- the tests of register in their order, and the answer where none holds
abbrev pub register_tests : {A : Type 0} → Contents → Handler → A → Result A Refusal → Type 0
register_tests k h answer =
    refuses (64 ≤ count k) PlanFull
    (field_tests h
    (refuses (longest_round < round (added k h)) LongRound
    (accepts answer)))

-- registering h on a plan that holds k answers r and leaves it with next
pub record Registers (k : Contents) (h : Handler) (r : Result ℕ Refusal) (next : Contents) : Type 0 where
  pub answers : register_tests k h (count k + 1) r
  pub leaves : next ≡ after k (added k h) r

-- no test refuses this handler
pub record Takes (k : Contents) (h : Handler) : Type 0 where
  pub room : count k < 64
  pub range : IsInRange h
  pub short : round (added k h) ≤ longest_round

-- ---- join

-- the handler of number a before that of number b; a handler's number is one more than its place
abbrev pub with_join : Contents → ℕ → ℕ → Contents
with_join k a b = record { handlers = k.handlers; joined = λ x y. k.joined x y || (suc x == a && suc y == b) }

-- the handlers of these numbers have other periods or other offsets
abbrev pub TimedApart : Contents → ℕ → ℕ → Type 0
TimedApart k a b = ((at k (a - 1)).period ≢ (at k (b - 1)).period) ⊎ ((at k (a - 1)).offset ≢ (at k (b - 1)).offset)

-- a is b, or a chain of joins leads from b to a
abbrev pub ClosesCircle : Contents → ℕ → ℕ → Type 0
ClosesCircle k a b = (a ≡ b) ⊎ Chain k.joined (b - 1) (a - 1)

-- the tests of join in their order, and the answer where none holds
abbrev pub join_tests : {A : Type 0} → Contents → ℕ → ℕ → A → Result A Refusal → Type 0
join_tests k a b answer =
    refuses ((Known k a → ⊥) ⊎ (Known k b → ⊥)) NoSuchHandler
    (refuses (TimedApart k a b) OtherTimes
    (refuses (ClosesCircle k a b) Circle
    (accepts answer)))

-- joining a before b on a plan that holds k answers r and leaves it with next
pub record Joins (k : Contents) (a b : ℕ) (r : Result (Unit {0}) Refusal) (next : Contents) : Type 0 where
  pub answers : join_tests k a b tt r
  pub leaves : next ≡ after k (with_join k a b) r

-- no test refuses this join
pub record MayJoin (k : Contents) (a b : ℕ) : Type 0 where
  pub known_a : Known k a
  pub known_b : Known k b
  pub periods : (at k (a - 1)).period ≡ (at k (b - 1)).period
  pub offsets : (at k (a - 1)).offset ≡ (at k (b - 1)).offset
  pub straight : ClosesCircle k a b → ⊥

-- ---- reseat

-- the same handler on another core
abbrev pub seated : Handler → ℕ → Handler
seated h c = record { period = h.period; offset = h.offset; shortest = h.shortest; longest = h.longest; core = c }

-- the handler of number n on the core c
abbrev pub reseated : Contents → ℕ → ℕ → Contents
reseated k n c = record { handlers = slice_set k.handlers (n - 1) (seated (at k (n - 1)) c); joined = k.joined }

-- the tests of reseat in their order, and the answer where none holds
abbrev pub reseat_tests : {A : Type 0} → Contents → ℕ → ℕ → A → Result A Refusal → Type 0
reseat_tests k n c answer =
    refuses (Known k n → ⊥) NoSuchHandler
    (refuses ((c ≡ 0) ⊎ (8 < c)) NoSuchCore
    (accepts answer))

-- reseating n to c on a plan that holds k answers r and leaves it with next
pub record Reseats (k : Contents) (n c : ℕ) (r : Result (Unit {0}) Refusal) (next : Contents) : Type 0 where
  pub answers : reseat_tests k n c tt r
  pub leaves : next ≡ after k (reseated k n c) r

-- no test refuses the handler this core
pub record MaySeat (k : Contents) (n c : ℕ) : Type 0 where
  pub known : Known k n
  pub low : 1 ≤ c
  pub high : c ≤ 8

-- ---- every call has one answer, and one plan after it

-- two answers and two plans after the same call are one
abbrev pub Agree : {A : Type 0} → (Result A Refusal → Contents → Type 0) → Type 0
Agree {A} call = (r s : Result A Refusal) (next other : Contents) → call r next → call s other → (s ≡ r) × (other ≡ next)

-- so it is for each of the three calls
pub record OneAnswer : Type 0 where
  pub register : (k : Contents) (h : Handler) → Agree (Registers k h)
  pub join : (k : Contents) (a b : ℕ) → Agree (Joins k a b)
  pub reseat : (k : Contents) (n c : ℕ) → Agree (Reseats k n c)
