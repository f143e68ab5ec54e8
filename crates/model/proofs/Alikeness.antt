-- Alike mixtures of calls leave the same plan, and then equal checks answer the same.
use Rattle.std.proofs.Common.{◌≡◌, ℕ, suc, ◌+◌, ◌<◌, Bool, true, false, ◌&&◌, ◌||◌, ◌↔◌, List, [], ◌∷◌, ◌++◌, map, length, get_or, Ok, Err, sym, refl, ap, ◌∙◌, subst, ap₂, inl, inr, true≢false, arith, ext_get_or}
use mathlib.Core.Path.{fun_ext}
use Rattle.std.specs.Prelude.{◌==◌}
use Rattle.std.specs.Cmp.{both_ways}
use Rattle.std.specs.List.{Contains as Has}
use mathlib.Core.Bool.{or-false}
use Rattle.std.proofs.lemmas.Bool.{eqb-true, eq-eqb, and_parts, and_from, or_cases, or_left, or_right}
use Rattle.std.proofs.lemmas.List.{length-map, get_or-map}
use Rattle.std.proofs.lemmas.List.Elements.{Contains-append_left, Contains-push, Contains-push_cases}
use Rattle.plan.specs.Rows.{blank}
use Rattle.plan.specs.Contents.{Contents, count, at}
use Rattle.plan.specs.Calls.{seated}
use Rattle.plan.specs.Histories.{registered, joined, reseated}
use Rattle.model.proofs.Lists.{has_none}
use Rattle.model.specs.Checks.{Checks}
use Rattle.model.specs.Histories.{Event, changes, checks, Makes, After, new, then, History, but_core, JoinTaken, Alike}
use Rattle.model.specs.Laws.{AlikeChecksAnswerAlike}
use Rattle.model.proofs.Sounds.{after_sound}
use Rattle.model.proofs.Rechecks.{checks_one}
use Rattle.model.proofs.LastCores.{last_core_one}
use Rattle.model.proofs.HandlersHeld.{handlers_held}

-- ---- the joins

-- whether the call joins the handler at the place x before that at y, and is accepted
abbrev joins_here : Event → ℕ → ℕ → Bool
joins_here (changes (registered h r)) x y = false
joins_here (changes (joined a b (Ok u))) x y = suc x == a && suc y == b
joins_here (changes (joined a b (Err e))) x y = false
joins_here (changes (reseated n c r)) x y = false
joins_here (checks D was r is) x y = false

joins_is : (event : Event) (x y : ℕ) → joins_here event x y ≡ true → event ≡ changes (joined (suc x) (suc y) (Ok tt))
joins_is (changes (registered h r)) x y e = absurd (true≢false (sym e))
joins_is (changes (joined a b (Ok u))) x y e =
    let q = and_parts (suc x == a) (suc y == b) e in
    ap₂ (λ i j. changes (joined i j (Ok tt))) (sym (eqb-true (suc x) a q.0)) (sym (eqb-true (suc y) b q.1))
joins_is (changes (joined a b (Err f))) x y e = absurd (true≢false (sym e))
joins_is (changes (reseated n c r)) x y e = absurd (true≢false (sym e))
joins_is (checks D was r is) x y e = absurd (true≢false (sym e))

is_joins : (event : Event) (x y : ℕ) → event ≡ changes (joined (suc x) (suc y) (Ok tt)) → joins_here event x y ≡ true
is_joins event x y e = ap (λ z. joins_here z x y) e ∙ and_from (suc x == suc x) (suc y == suc y) (eq-eqb (suc x) (suc x) refl) (eq-eqb (suc y) (suc y) refl)

joined_made : (event : Event) (k next : Contents) → Makes k event next → (x y : ℕ) → next.joined x y ≡ (k.joined x y || joins_here event x y)
joined_made (changes (registered h (Ok n))) k next m x y = ap (λ (z : Contents). z.joined x y) m.1.leaves ∙ sym (or-false (k.joined x y))
joined_made (changes (registered h (Err e))) k next m x y = ap (λ (z : Contents). z.joined x y) m.1.leaves ∙ sym (or-false (k.joined x y))
joined_made (changes (joined a b (Ok u))) k next m x y = ap (λ (z : Contents). z.joined x y) m.leaves
joined_made (changes (joined a b (Err e))) k next m x y = ap (λ (z : Contents). z.joined x y) m.leaves ∙ sym (or-false (k.joined x y))
joined_made (changes (reseated n c (Ok u))) k next m x y = ap (λ (z : Contents). z.joined x y) m.leaves ∙ sym (or-false (k.joined x y))
joined_made (changes (reseated n c (Err e))) k next m x y = ap (λ (z : Contents). z.joined x y) m.leaves ∙ sym (or-false (k.joined x y))
joined_made (checks D was r is) k next m x y = ap (λ (z : Contents). z.joined x y) m.2 ∙ sym (or-false (k.joined x y))

-- who is joined before whom is what was taken
joins_taken : (events : List Event) (k : Contents) → After events k → (x y : ℕ) → (k.joined x y ≡ true) ↔ JoinTaken events (suc x) (suc y)
joins_taken _ _ new = λ x y. (λ e. absurd (true≢false (sym e)), λ h. absurd (has_none (changes (joined (suc x) (suc y) (Ok tt))) h))
joins_taken _ _ (then {events} {k} {next} event before made) = λ x y. (
  λ e. elim (or_cases (k.joined x y) (joins_here event x y) (sym (joined_made event k next made x y) ∙ e)) [
    | inl h ↦ Contains-append_left events (event ∷ []) (changes (joined (suc x) (suc y) (Ok tt))) ((joins_taken events k before x y).0 h)
    | inr h ↦ subst (Has (events ++ event ∷ [])) (joins_is event x y h) (Contains-push events event)
  ],
  λ h. joined_made event k next made x y ∙ elim (Contains-push_cases events event (changes (joined (suc x) (suc y) (Ok tt))) h) [
    | inl m ↦ or_left (k.joined x y) (joins_here event x y) ((joins_taken events k before x y).1 m)
    | inr e ↦ or_right (k.joined x y) (joins_here event x y) (is_joins event x y e)
  ],
)

-- ---- one plan

module _ (h g : History) (alike : Alike h.events g.events) where
  rows_same : map but_core h.left.handlers ≡ map but_core g.left.handlers
  rows_same = (handlers_held h.events h.left h.after).rows ∙ alike.registers ∙ sym (handlers_held g.events g.left g.after).rows

  counts_same : count h.left ≡ count g.left
  counts_same = sym (length-map h.left.handlers but_core) ∙ ap length rows_same ∙ length-map g.left.handlers but_core

  cores_same : (i : ℕ) → i < count h.left → (at h.left i).core ≡ (at g.left i).core
  cores_same i l =
      last_core_one g.events (i + 1) (at h.left i).core (at g.left i).core
      ((alike.cores (i + 1) (at h.left i).core).0 ((handlers_held h.events h.left h.after).cores i l))
      ((handlers_held g.events g.left g.after).cores i (omega (arith, l, counts_same)))

  -- rows that are equal but for their cores, with equal cores
  row_same : (i : ℕ) → i < count h.left → at h.left i ≡ at g.left i
  row_same i l =
      let low : i < count g.left = omega (arith, l, counts_same) in
      let but : but_core (at h.left i) ≡ but_core (at g.left i) =
      sym (get_or-map but_core h.left.handlers i blank blank l) ∙ ap (λ hs. get_or hs i blank) rows_same ∙ get_or-map but_core g.left.handlers i blank blank low in
      ap₂ seated but (cores_same i l)

  handlers_same : h.left.handlers ≡ g.left.handlers
  handlers_same = ext_get_or blank h.left.handlers g.left.handlers counts_same row_same

  joined_same : h.left.joined ≡ g.left.joined
  joined_same = fun_ext (λ x. fun_ext (λ y.
      both_ways (h.left.joined x y) (g.left.joined x y)
      (λ e. (joins_taken g.events g.left g.after x y).1 ((alike.joins (suc x) (suc y)).0 ((joins_taken h.events h.left h.after x y).0 e)))
      (λ e. (joins_taken h.events h.left h.after x y).1 ((alike.joins (suc x) (suc y)).1 ((joins_taken g.events g.left g.after x y).0 e)))))

  left_same : h.left ≡ g.left
  left_same = ap₂ (λ hs f. record { handlers = hs; joined = f }) handlers_same joined_same

pub alike_checks_answer_alike : AlikeChecksAnswerAlike
alike_checks_answer_alike h g alike = (
  left_same h g alike,
  λ D was is other left r s x y front back marks.
      checks_one g.left (after_sound g.events g.left g.after) D was is other left r s front back marks (subst (λ k. Checks k D was r is) (left_same h g alike) x) y,
)
