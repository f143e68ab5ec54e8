-- Where nobody has time left and nobody starts, nothing changes.
use Rattle.std.proofs.Common.{◌≡◌, ℕ, zero, suc, ◌+◌, ◌<◌, ◌≤◌, List, [], ◌∷◌, length, get_or, Bool, Decides, replicate, refl, sym, ap, ◌∙◌, subst, arith, ext_get_or}
use Rattle.std.proofs.lemmas.List.{take-replicate, drop-replicate, get_or-replicate, length-replicate}
use Rattle.gather.proofs.Counting.{has_here}
use Rattle.policy.specs.Laws.{Choice}
use Rattle.plan.specs.Contents.{Contents, Sound, count}
use Rattle.model.specs.Units.{State as Left, left, zeros, Running, Served, Step}
use Rattle.model.specs.Runs.{StateAt}
use Rattle.model.specs.Verdicts.{Outnumber, Timely}
use Rattle.model.proofs.Extend.{beginnings_go_on}
use Rattle.model.proofs.Lists.{has_only}
use Rattle.model.specs.declared.states.State.{State}
use Rattle.model.specs.Memory.{times}
use Rattle.checker.specs.Moments.{Calm, NobodyStarts}
use Rattle.model.specs.Same.{state_one}
use Rattle.checker.proofs.Holding.{front_one}
use Rattle.checker.specs.Fronts.{idle, Front}
use Rattle.model.specs.Memory.{Holds}

-- two times with the same rows have the same states
pub same_states : (p : Contents) (D : Choice) (t u : ℕ) (rows : List State) → Front p D t rows → Front p D u rows → (v : List ℕ) → StateAt p D u v → StateAt p D t v
same_states p D t u rows f g v a =
    let r = g.each v a in
    let s = f.only r.0 r.1 in
    let same : s.0 ≡ v = sym s.2.left ∙ r.2.left in
    subst (StateAt p D t) same s.1

module _ (p : Contents) (D : Choice) (ok : Sound p) where
  nothing_left : (i : ℕ) → i < count p → left (zeros p) i ≡ 0
  nothing_left i lt = get_or-replicate (count p) i 0 0 lt

  all_nothing : (v : Left) → length v ≡ count p → ((i : ℕ) → i < count p → left v i ≡ 0) → v ≡ zeros p
  all_nothing v long none =
      ext_get_or 0 v (zeros p) (long ∙ sym (length-replicate (count p) 0))
      (λ i l. let lt : i < count p = omega (arith, long) in none i lt ∙ sym (nothing_left i lt))

  idle_holds : Holds p idle (zeros p)
  idle_holds = record { left = take-replicate (count p) 64 0 ok.few; blank = drop-replicate (count p) 64 0 }

  nobody_runs : (t i : ℕ) → i < count p → ¬ Running p D t (zeros p) i
  nobody_runs t i lt r = omega (arith, r.ready.working, nothing_left i lt)

  module _ (t : ℕ) (calm : NobodyStarts p t) where
    stays : Step p D t (zeros p) (zeros p)
    stays = (
      zeros p,
      record { long = length-replicate (count p) 0; fresh = λ i lt st. absurd (calm i lt st); same = λ i lt n. refl },
      record { long = length-replicate (count p) 0; ran = λ i lt r. absurd (nobody_runs t i lt r); waited = λ i lt n. refl },
    )

    only_stays : (v : Left) → Step p D t (zeros p) v → zeros p ≡ v
    only_stays v (u, st, sv) =
        let begun : u ≡ zeros p = all_nothing u st.long (λ i lt. st.same i lt (calm i lt) ∙ nothing_left i lt) in
        let served : Served p D t (zeros p) v = rw begun at sv in
        sym (all_nothing v served.long (λ i lt. served.waited i lt (nobody_runs t i lt) ∙ nothing_left i lt))

    idle_next : Front p D t (idle ∷ []) → Front p D (suc t) (idle ∷ [])
    idle_next f = front_one p D (suc t) idle (zeros p) idle_holds at_next one
      where
        here : (v : Left) → StateAt p D t v → v ≡ zeros p
        here v a =
            let r = f.each v a in
            let is : idle ≡ r.0 = has_only idle r.0 r.1 in
            sym r.2.left ∙ ap (times p) (sym is) ∙ idle_holds.left

        at_next : StateAt p D (suc t) (zeros p)
        at_next =
            let r = f.only idle (has_here idle []) in
            (beginnings_go_on p D ok t (zeros p)).1 (zeros p, subst (StateAt p D t) (here r.0 r.1) r.1, stays)

        one : (v : Left) → StateAt p D (suc t) v → zeros p ≡ v
        one v a =
            let b = (beginnings_go_on p D ok t v).0 a in
            only_stays v (rw (here b.0 b.1) at b.2)

  -- an idle front is timely
  pub idle_timely : (t : ℕ) → Front p D t (idle ∷ []) → Timely p D t
  idle_timely t f i (v, a, late) =
      let r = f.each v a in
      let is : idle ≡ r.0 = has_only idle r.0 r.1 in
      let none : v ≡ zeros p = sym r.2.left ∙ ap (times p) (sym is) ∙ idle_holds.left in
      omega (arith, rw none at late.working, nothing_left i late.known)

  module _ (t units : ℕ) (calm : Calm p t units) (f : Front p D t (idle ∷ [])) where
    pub idle_front : (j : ℕ) → j ≤ units → Front p D (t + j) (idle ∷ [])
    idle_front zero le = let e : t + 0 ≡ t = omega arith in rw e f
    idle_front (suc j) le =
        let e : t + suc j ≡ suc (t + j) = omega arith in
        rw e (idle_next (t + j) (calm j (omega arith)) (idle_front j (omega arith)))

    pub idle_fits : (j n : ℕ) → j ≤ units → Outnumber (StateAt p D (t + j)) n → Outnumber (StateAt p D t) n
    idle_fits j n le o = record {
      states = o.states;
      once = o.once;
      such = λ v h. same_states p D t (t + j) (idle ∷ []) f (idle_front j le) v (o.such v h);
      many = o.many;
    }

-- whether the one row is idle, asked of it
pub idle_told : (rows : List State) (x y : State) (r : Bool) → 1 ≤ length rows → length rows < 2 → x ≡ get_or rows 0 x → y.left ≡ replicate 64 0 → Decides r (x ≡ y) → Decides r (rows ≡ idle ∷ [])
idle_told [] x y r some few is blank told = absurd (omega (arith, some))
idle_told (s ∷ z ∷ rest) x y r some few is blank told = absurd (omega (arith, few))
idle_told (s ∷ []) x y r some few is blank told =
    let idle_is : y ≡ idle = state_one y idle blank in (
      λ e. ap (λ (q : State). q ∷ []) (sym is ∙ told.0 e ∙ idle_is),
      λ e. told.1 (is ∙ ap (λ (l : List State). get_or l 0 x) e ∙ sym idle_is),
    )
