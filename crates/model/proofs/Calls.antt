-- Each call of a history was made on what those before it left, and the n-th accepted register answered n.
use Rattle.std.proofs.Common.{◌≡◌, ◌⊎◌, List, [], ◌∷◌, ◌++◌, length, Ok, sym, refl, ap, ◌∙◌, subst, inl, inr, arith}
use Rattle.std.proofs.lemmas.List.{append_assoc, same_from_push, length-append}
use Rattle.plan.specs.Contents.{Contents}
use Rattle.plan.specs.Histories.{registered}
use Rattle.model.specs.Histories.{Event, changes, Makes, After, new, then, Among, History}
use Rattle.model.specs.Laws.{CallsFit, RegistersCount}
use Rattle.model.proofs.Sounds.{after_one}
use Rattle.model.proofs.HandlersHeld.{register_number, taken_count}

-- ---- the last of a list

module _ {X : Type 0} where
  last_of : (xs : List X) → (xs ≡ []) ⊎ ((ys : List X) × (y : X) × (xs ≡ ys ++ y ∷ []))
  last_of [] = inl refl
  last_of (x ∷ xs) =
      elim (last_of xs) [
        | inl e ↦ inr ([], x, ap (λ (l : List X). x ∷ l) e)
        | inr q ↦ inr (x ∷ q.0, q.1, ap (λ (l : List X). x ∷ l) q.2)
      ]

  -- what stands in a list is its last element, or stands in the list without that
  last_or_before : (xs before rest : List X) (last x : X) → xs ++ last ∷ [] ≡ before ++ x ∷ rest
      → ((xs ≡ before) × (last ≡ x)) ⊎ ((fewer : List X) × (xs ≡ before ++ x ∷ fewer))
  last_or_before xs before rest last x e =
      elim (last_of rest) [
        | inl q ↦ inl (same_from_push xs before last x (e ∙ ap (λ (l : List X). before ++ x ∷ l) q))
        | inr q ↦
            inr (
              q.0,
              (same_from_push xs (before ++ x ∷ q.0) last q.1
                  (e ∙ ap (λ (l : List X). before ++ x ∷ l) q.2 ∙ sym (append_assoc before (x ∷ q.0) (q.1 ∷ [])))).0,
            )
      ]

-- ---- a call among the others

-- the call was made on what the calls before it left
abbrev Made : List Event → Event → Type 0
Made before event = (k : Contents) × (next : Contents) × After before k × Makes k event next

made_after : (whole : List Event) (left : Contents) → After whole left → (before rest : List Event) (event : Event) → whole ≡ before ++ event ∷ rest → Made before event
made_after _ _ new before rest event e = absurd (omega (arith, ap length e, length-append before (event ∷ rest)))
made_after _ _ (then {events} {k} {next} last after makes) before rest event e =
    elim (last_or_before events before rest last event e) [
      | inl q ↦ (k, next, subst (λ l. After l k) q.0 after, subst (λ x. Makes k x next) q.1 makes)
      | inr q ↦ made_after events k after before q.0 event q.1
    ]

pub calls_fit : CallsFit
calls_fit h before rest event e =
    let m = made_after h.events h.left h.after before rest event e in
    (m.0, m.1, m.2, m.3, λ l a. after_one before m.0 l m.2 a)

-- so was one that stands among the calls of a history
pub among_made : (h : History) (k : Contents) (event : Event) → Among h.events k event → (next : Contents) × Makes k event next
among_made h k event a =
    let m = made_after h.events h.left h.after a.before a.rest event a.whole in
    (m.1, subst (λ x. Makes x event m.1) (after_one a.before k m.0 a.held m.2) m.3)

-- ---- the numbers of registers

pub registers_count : RegistersCount
registers_count h before rest x n e =
    let m = made_after h.events h.left h.after before rest (changes (registered x (Ok n))) e in
    omega (arith, register_number m.0 m.1 x n m.3.1, taken_count before m.0 m.2)
