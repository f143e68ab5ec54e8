-- Histories that ask the same answer the same, and leave the same plan.
use Rattle.std.proofs.Common.{◌≡◌, ℕ, List, [], ◌∷◌, ◌++◌, map, length, Result, sym, refl, ap, ◌∙◌, ap₂, subst₂, arith}
use Rattle.std.proofs.lemmas.List.{length_push, same_from_push, map-append}
use Rattle.policy.specs.Laws.{Choice}
use Rattle.plan.specs.declared.refusals.Refusal.{Refusal}
use Rattle.plan.specs.Contents.{Contents, Sound}
use Rattle.plan.specs.Calls.{Registers, Joins, Reseats}
use Rattle.plan.specs.Histories.{registered, joined, reseated}
use Rattle.plan.proofs.Answered.{one_answer_each}
use Rattle.model.specs.declared.verdicts.Verdict.{Verdict}
use Rattle.model.specs.Checks.{Tables, Checks}
use Rattle.model.specs.Histories.{Event, changes, checks, Makes, After, new, then, Question, registering, joining, seating, checking, question, Answer, numbers, accepts, finds, answer}
use Rattle.model.specs.Laws.{QuestionsDecide}
use Rattle.model.proofs.Sounds.{after_sound}
use Rattle.model.proofs.Rechecks.{checks_one}

-- ---- one answer to each question

-- a check with tables of so many rows is answered so, and leaves the plan with next
record ChecksSome (k : Contents) (D : Choice) (front back marks : ℕ) (a : Answer) (next : Contents) : Type 0 where
  was : Tables
  is : Tables
  result : Result Verdict Refusal
  fronts : length was.front ≡ front
  backs : length was.back ≡ back
  mark_rows : length was.marks ≡ marks
  gives : a ≡ finds result
  checked : Checks k D was result is
  leaves : next ≡ k

-- the question, put to a plan that holds k, is answered so, and leaves it with next
abbrev Answers : Contents → Question → Answer → Contents → Type 0
Answers k (registering h) a next = (r : Result ℕ Refusal) × (a ≡ numbers r) × Registers k h r next
Answers k (joining x y) a next = (r : Result (Unit {0}) Refusal) × (a ≡ accepts r) × Joins k x y r next
Answers k (seating n c) a next = (r : Result (Unit {0}) Refusal) × (a ≡ accepts r) × Reseats k n c r next
Answers k (checking D front back marks) a next = ChecksSome k D front back marks a next

makes_answers : (k next : Contents) (event : Event) → Makes k event next → Answers k (question event) (answer event) next
makes_answers k next (changes (registered h r)) m = (r, refl, m.1)
makes_answers k next (changes (joined a b r)) m = (r, refl, m)
makes_answers k next (changes (reseated n c r)) m = (r, refl, m)
makes_answers k next (checks D was r is) m = record { was = was; is = is; result = r; fronts = refl; backs = refl; mark_rows = refl; gives = refl; checked = m.1; leaves = m.2 }

answers_one : (k next other : Contents) (q : Question) (a b : Answer) → Sound k → Answers k q a next → Answers k q b other → (a ≡ b) × (next ≡ other)
answers_one k next other (registering h) a b ok (r, e, x) (s, f, y) = let q = one_answer_each.register k h r s next other x y in (e ∙ ap numbers (sym q.0) ∙ sym f, sym q.1)
answers_one k next other (joining m n) a b ok (r, e, x) (s, f, y) = let q = one_answer_each.join k m n r s next other x y in (e ∙ ap accepts (sym q.0) ∙ sym f, sym q.1)
answers_one k next other (seating n c) a b ok (r, e, x) (s, f, y) = let q = one_answer_each.reseat k n c r s next other x y in (e ∙ ap accepts (sym q.0) ∙ sym f, sym q.1)
answers_one k next other (checking D front back marks) a b ok x y =
    let same = checks_one k ok D x.was x.is y.was y.is x.result y.result (x.fronts ∙ sym y.fronts) (x.backs ∙ sym y.backs) (x.mark_rows ∙ sym y.mark_rows) in
    (x.gives ∙ ap finds (same x.checked y.checked) ∙ sym y.gives, x.leaves ∙ sym y.leaves)

-- ---- and to all that a history asks

module _ {X : Type 0} (f : Event → X) where
  map_push : (events : List Event) (event : Event) → map f (events ++ event ∷ []) ≡ map f events ++ f event ∷ []
  map_push events event = map-append f events (event ∷ [])

  none_pushed : (events : List Event) (event : Event) → ¬ ([] ≡ map f (events ++ event ∷ []))
  none_pushed events event e = omega (arith, ap length (e ∙ map_push events event), length_push (map f events) (f event))

decided : (events others : List Event) (k l : Contents) → After events k → After others l → map question events ≡ map question others
    → (map answer events ≡ map answer others) × (k ≡ l)
decided _ _ _ _ new new e = (refl, refl)
decided _ _ _ _ new (then {events} event a m) e = absurd (none_pushed question events event e)
decided _ _ _ _ (then {events} event a m) new e = absurd (none_pushed question events event (sym e))
decided _ _ _ _ (then {events} {k} {next} event a m) (then {events = others} {k = l} {next = left} other b n) e =
    let asked = sym (map_push question events event) ∙ e ∙ map_push question others other in
    let q = same_from_push (map question events) (map question others) (question event) (question other) asked in
    let before = decided events others k l a b q.0 in
    let here = subst₂ (λ x y. Answers x y (answer other) left) (sym before.1) (sym q.1) (makes_answers l left other n) in
    let last = answers_one k next left (question event) (answer event) (answer other) (after_sound events k a) (makes_answers k next event m) here in
    (map_push answer events event ∙ ap₂ (λ x y. x ++ y ∷ []) before.0 last.0 ∙ sym (map_push answer others other), last.1)

pub questions_decide : QuestionsDecide
questions_decide h g e = decided h.events g.events h.left g.left h.after g.after e
