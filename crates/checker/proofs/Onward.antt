-- From the states at a time to those at the next.
use Rattle.std.proofs.Common.{◌≡◌, ℕ, suc, ◌+◌, List, [], ◌++◌, map, length, drop, refl, ap, ◌∙◌, inl, inr, arith}
use Rattle.std.specs.List.{Contains as Has}
use Rattle.std.proofs.lemmas.List.{length-drop, length-append, take-append-le, drop-append-le, take_all, drop_all}
use Rattle.std.proofs.lemmas.List.{length-map}
use Rattle.policy.specs.Laws.{Choice}
use Rattle.plan.specs.Contents.{Contents, Sound, count}
use Rattle.model.specs.Units.{Step}
use Rattle.model.specs.Runs.{StateAt}
use Rattle.model.specs.Verdicts.{Outnumber}
use Rattle.model.proofs.Lists.{has_map_cases}
use Rattle.model.proofs.Extend.{beginnings_go_on}
use Rattle.model.specs.declared.states.State.{State}
use Rattle.model.specs.Memory.{times}
use Rattle.checker.proofs.Holding.{times_once}
use Rattle.checker.specs.Fronts.{FollowsOne, Joined, Overrun, Front}
use Rattle.model.specs.Memory.{Holds}

module _ (p : Contents) (D : Choice) (ok : Sound p) (t : ℕ) where
  -- the row of a state that follows the row s
  row_of : (s : State) (v : List ℕ) → length v ≡ count p → (x : State) × (times p x ≡ v) × (drop (count p) x.left ≡ drop (count p) s.left)
  row_of s v long =
      let n = count p in
      let rest = drop n s.left in
      let len : length (v ++ rest) ≡ 64 = omega (arith, length-append v rest, length-drop n s.left, s.whole, long, ok.few) in (
        record { left = v ++ rest; whole = len },
        take-append-le n v rest (omega (arith, long)) ∙ take_all n v (omega (arith, long)),
        drop-append-le n v rest (omega (arith, long)) ∙ ap (λ l. l ++ rest) (drop_all n v (omega (arith, long))),
      )

  module _ (front back : List State) (f : Front p D t front) (j : Joined (FollowsOne p D t front) [] back) where
    follows : (x : State) → Has back x → FollowsOne p D t front x
    follows x h = elim (j.only x h) [ inl n ↦ absurd (omega (arith, n.1)) | inr g ↦ g ]

    after_it : Front p D (suc t) back
    after_it = record {
      each = λ v a.
          let b = (beginnings_go_on p D ok t v).0 a in
          let r = f.each b.0 b.1 in
          let step : Step p D t (times p r.0) v = rw r.2.left b.2 in
          let x = row_of r.0 v step.2.long in
          (x.0, j.new x.0 (r.0, r.1, (rw x.1 step, x.2)), record { left = x.1; blank = x.2 ∙ r.2.blank });
      only = λ x h.
          let g = follows x h in
          let r = f.only g.0 g.1 in
          let from : StateAt p D t (times p g.0) = rw r.2.left r.1 in
          (times p x, (beginnings_go_on p D ok t (times p x)).1 (times p g.0, from, g.2.0), record { left = refl; blank = g.2.1 ∙ r.2.blank });
    }

    pub front_onward : Front p D (t + 1) back
    front_onward = let e : t + 1 ≡ suc t = omega arith in rw e after_it

  -- where more rows follow than there is room for, there are more states at the next time
  module _ (front : List State) (f : Front p D t front) (room : ℕ) (o : Overrun (FollowsOne p D t front) [] room) (d : State) where
    one : (x : State) → Has o.rows x → FollowsOne p D t front x
    one x h = elim (o.such x h) [ inl n ↦ absurd (omega (arith, n.1)) | inr g ↦ g ]

    holds_next : (x : State) → Has o.rows x → StateAt p D (suc t) (times p x) × Holds p x (times p x)
    holds_next x h =
        let g = one x h in
        let r = f.only g.0 g.1 in
        let from : StateAt p D t (times p g.0) = rw r.2.left r.1 in
        ((beginnings_go_on p D ok t (times p x)).1 (times p g.0, from, g.2.0), record { left = refl; blank = g.2.1 ∙ r.2.blank })

    outnumber_suc : Outnumber (StateAt p D (suc t)) room
    outnumber_suc = record {
      states = map (times p) o.rows;
      once = times_once p o.rows d (λ x h. (times p x, (holds_next x h).1)) o.once;
      such = λ v h. (let r = has_map_cases (times p) v o.rows h in rw (← r.2) (holds_next r.0 r.1).0);
      many = omega (arith, o.many, length-map o.rows (times p));
    }

    pub outnumbered : Outnumber (StateAt p D (t + 1)) room
    outnumbered = let e : t + 1 ≡ suc t = omega arith in rw e outnumber_suc
