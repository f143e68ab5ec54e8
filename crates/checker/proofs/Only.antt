-- The state that follows where nobody starts.
use Rattle.std.proofs.Common.{◌≡◌, ℕ, ◌+◌, ◌-◌, ◌<◌, ◌≤◌, List, length, get_or, refl, sym, ap, ◌∙◌, subst, inl, inr, arith, ext_get_or}
use Rattle.std.proofs.lemmas.List.{get_or-take, get_or-drop, length-take-le}
use Rattle.std.proofs.lemmas.Bool.{cases_lt}
use Rattle.policy.specs.Laws.{Choice}
use Rattle.plan.specs.Contents.{Contents, Sound, count}
use Rattle.model.specs.Units.{left, Started, Running, Served}
use Rattle.model.proofs.Deciding.{running_decided}
use Rattle.model.specs.declared.states.State.{State}
use Rattle.model.specs.Memory.{times, RestSame}
use Rattle.checker.specs.Rows.{Below}
use Rattle.checker.specs.Starting.{NobodyStarts}
use Rattle.checker.specs.Successors.{OnlySuccessor}

module _ (p : Contents) (D : Choice) (ok : Sound p) (t : ℕ) where
  -- a unit has one outcome
  served_one : (u v w : List ℕ) → Served p D t u v → Served p D t u w → v ≡ w
  served_one u v w a b = ext_get_or 0 v w (a.long ∙ sym b.long) (λ i l. let h : i < count p = omega (arith, a.long) in here i h (running_decided p D ok t u i h))
    where
      here : (i : ℕ) → i < count p → Dec (Running p D t u i) → left v i ≡ left w i
      here i h (yes r) = omega (arith, a.ran i h r, b.ran i h r)
      here i h (no n) = a.waited i h n ∙ sym (b.waited i h n)

  module _ (s x : State) (served : Served p D t (times p s) (times p x)) (rest : RestSame p s x) where
    -- nobody has more time left after a unit than before it
    pub served_below : Below x.left s.left
    served_below i = elim (cases_lt i (count p)) [ inl h ↦ inside h (running_decided p D ok t (times p s) i h) | inr h ↦ past h ]
      where
        inside : i < count p → Dec (Running p D t (times p s) i) → get_or x.left i 0 ≤ get_or s.left i 0
        inside h (yes r) = omega (arith, served.ran i h r, get_or-take (count p) s.left i 0 h, get_or-take (count p) x.left i 0 h)
        inside h (no n) = omega (arith, served.waited i h n, get_or-take (count p) s.left i 0 h, get_or-take (count p) x.left i 0 h)

        past : count p ≤ i → get_or x.left i 0 ≤ get_or s.left i 0
        past h =
            let e : count p + (i - count p) ≡ i = omega arith in
            let same = sym (get_or-drop (count p) x.left (i - count p) 0) ∙ ap (λ l. get_or l (i - count p) 0) rest ∙ get_or-drop (count p) s.left (i - count p) 0 in
            let here : get_or x.left i 0 ≡ get_or s.left i 0 = rw e at same in
            omega (arith, here)

    pub only_successor : NobodyStarts p t → OnlySuccessor p D t s x
    only_successor nobody = record {
      step = (times p s, record { long = long; fresh = λ i h b. absurd (nobody i h b); same = λ i h n. refl }, served);
      only = λ v (u, started, stepped).
          served_one (times p s) v (times p x) (subst (λ (w : List ℕ). Served p D t w v) (same u started) stepped) served;
      rest = rest;
    }
      where
        long : length (times p s) ≡ count p
        long = length-take-le (count p) s.left (omega (arith, ok.few, s.whole))

        same : (u : List ℕ) → Started p t (times p s) u → u ≡ times p s
        same u a = ext_get_or 0 u (times p s) (a.long ∙ sym long) (λ i l. let h : i < count p = omega (arith, a.long) in a.same i h (nobody i h))
