-- Calls made one after another are a history, and histories that ask the same answer the same.
use Rattle.std.proofs.Common.{◌≡◌, ℕ, ◌+◌, ◌<◌, List, [], ◌∷◌, ◌++◌, map, length, take, Result}
use Rattle.std.proofs.Common.{slice_index_or, slice_set, sym, refl, ap, ap₂, ◌∙◌, subst, subst₂}
use Rattle.std.proofs.lemmas.List.{map-append, take_more, take_more_set}
use Rattle.policy.proofs.Lawful.{coded_lawful}
use Rattle.policy.specs.declared.cores.Core.{Core}
use Rattle.policy.specs.declared.candidates.Candidate.{Candidate}
use Rattle.policy.specs.Laws.{Choice}
use Rattle.plan.specs.declared.refusals.Refusal.{Refusal}
use Rattle.plan.specs.Contents.{Contents, empty}
use Rattle.model.specs.declared.verdicts.Verdict.{Verdict}
use Rattle.samples.specs.Samples.{all_fixed}
use Rattle.model.specs.Checks.{Tables, Checks}
use Rattle.model.specs.Histories.{Event, checks, new, then, History}
use Rattle.model.specs.Histories.{Question, question, checking, answer, finds}
use Rattle.model.specs.Histories.{Answer as Reply}
use Rattle.samples.specs.Example.{fixed, asks, answers}
use Rattle.model.proofs.Findings.{one_choice}
use Rattle.model.proofs.Questions.{questions_decide}
use Rattle.samples.proofs.Example.{some_history_has_each_kind}
use Rattle.samples.specs.declared.mixture.Call.{Call}
use Rattle.samples.specs.declared.mixture.Answer.{Answer}
use Rattle.samples.specs.Mixtures.{asked, said, Answered, AllAnswered}

-- ---- one call

-- a check under a discipline that goes by fixed priority on every core
pub check_answered : (k : Contents) (D : Choice) (was is : Tables) (r : Result Verdict Refusal)
    → (front back marks : ℕ)
    → ((c : Core) (x y : Candidate) (t : ℕ) → D c x y t ≡ fixed c x y t) → Checks k D was r is
    → length was.front ≡ front → length was.back ≡ back → length was.marks ≡ marks
    → Answered k (checking fixed front back marks) (finds r) k
check_answered k D was is r front back marks alike checked fronts backs rows = record {
  event = checks fixed was r is;
  asks = rw (fronts, backs, rows) refl;
  answers = refl;
  makes =
      let by_priority = subst (λ E. Checks k E was r is) (one_choice D fixed alike) checked in
      (coded_lawful all_fixed, by_priority, refl);
}

-- ---- one after another

pub none_answered : AllAnswered [] [] empty
none_answered = record { events = []; asks = refl; answers = refl; after = new }

module _ {X : Type 0} (f : Event → X) (events : List Event) (event : Event)
    (xs : List X) (x : X) where
  map_pushed : map f events ≡ xs → f event ≡ x → map f (events ++ event ∷ []) ≡ xs ++ x ∷ []
  map_pushed all one = map-append f events (event ∷ []) ∙ ap₂ (λ ys y. ys ++ y ∷ []) all one

answered_more : (qs : List Question) (rs : List Reply) (q : Question) (r : Reply)
    → (k next : Contents)
    → AllAnswered qs rs k → Answered k q r next → AllAnswered (qs ++ q ∷ []) (rs ++ r ∷ []) next
answered_more qs rs q r k next all one = record {
  events = all.events ++ one.event ∷ [];
  asks = map_pushed question all.events one.event qs q all.asks one.asks;
  answers = map_pushed answer all.events one.event rs r all.answers one.answers;
  after = then one.event all.after one.makes;
}

-- the first n calls are asked, and answered by the first n replies
abbrev pub Made : List Call → List Answer → ℕ → Contents → Type 0
Made calls replies n k = AllAnswered (map asked (take n calls)) (map said (take n replies)) k

-- of these calls one more is made, and its answer is written behind those before it
pub call_more : (calls : List Call) (replies : List Answer) (n : ℕ) (d : Call) (r : Answer)
    → (k next : Contents) → n < length calls → n < length replies
    → Made calls replies n k → Answered k (asked (slice_index_or calls n d)) (said r) next
    → Made calls (slice_set replies n r) (n + 1) next
call_more calls replies n d r k next low room all one =
    let call = slice_index_or calls n d in
    subst₂ (λ qs rs. AllAnswered qs rs next)
    (sym (
    ap (map asked) (take_more calls n d low) ∙ map-append asked (take n calls) (call ∷ [])))
    (sym (
    ap (map said) (take_more_set replies n r room) ∙ map-append said (take n replies) (r ∷ [])))
    (answered_more _ _ (asked call) (said r) k next all one)

-- ---- the mixture

-- what asks the questions of the mixture is answered as the mixture is
pub answered_as_listed : (k : Contents) (rs : List Reply) → AllAnswered asks rs k → rs ≡ answers
answered_as_listed k rs all =
    let h : History = record { events = all.events; left = k; after = all.after } in
    let listed = some_history_has_each_kind in
    sym all.answers ∙ (questions_decide h listed.0 (all.asks ∙ sym listed.1)).0 ∙ listed.2
