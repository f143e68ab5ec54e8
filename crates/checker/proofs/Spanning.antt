-- The states that follow a state are those between the one with the shortest times and the one with the longest.
use Rattle.std.proofs.Common.{◌≡◌, ℕ, suc, ◌+◌, ◌-◌, ◌<◌, ◌≤◌, ◌⊎◌, List, ◌++◌, length, get_or, take, drop, sym, ap, ◌∙◌, subst, subst₂, inl, inr, arith, Some}
use Rattle.std.proofs.lemmas.List.{get_or-take, get_or-drop, length-take-le, length-drop, length-append, get_or_append_left, get_or-append_right, take-append-le, take_all}
use Rattle.std.proofs.lemmas.Bool.{cases_lt}
use Rattle.policy.specs.Laws.{Choice}
use Rattle.plan.specs.Contents.{Contents, Sound, count, at}
use Rattle.model.specs.Units.{left, Starts, Started, Running, Served, Step}
use Rattle.model.proofs.Deciding.{starts_decided, running_decided}
use Rattle.model.proofs.Choosing.{running_same}
use Rattle.model.proofs.Made.{made, made_long, made_left}
use Rattle.model.specs.declared.states.State.{State}
use Rattle.checker.specs.declared.following.Successors.{Successors}
use Rattle.model.specs.Memory.{times}
use Rattle.checker.specs.Rows.{Below, Between}
use Rattle.checker.specs.Reaching.{StartsTo, ReachesTo}
use Rattle.checker.specs.Successors.{Coming, SuccessorsOf}
use Rattle.checker.proofs.Counting.{least_first}
use Rattle.checker.proofs.Reading.{drop_same}

module _ (p : Contents) (ok : Sound p) (t : ℕ) (was low high : List ℕ) (reach : ReachesTo p t was (count p) low high) where
  -- the shortest times are nowhere more than the longest
  pub low_high : Below low high
  low_high i = go (cases_lt i (count p)) (starts_decided p t i)
    where
      stays : ¬ StartsTo p t (count p) i → get_or low i 0 ≤ get_or high i 0
      stays k = omega (arith, reach.same_low i k, reach.same_high i k)

      go : (i < count p) ⊎ (count p ≤ i) → Dec (Starts p t i) → get_or low i 0 ≤ get_or high i 0
      go (inl h) (yes s) = omega (arith, reach.least i (h, s), reach.most i (h, s), (ok.ranges i h).2)
      go (inl h) (no k) = stays (λ s. k s.1)
      go (inr h) d = stays (λ s. omega (arith, s.0))

  -- nor after both lost the same
  pub bounds : (least most : List ℕ) → Below least low → ((i : ℕ) → get_or most i 0 ≡ get_or high i 0 - (get_or low i 0 - get_or least i 0)) → Below least most
  bounds least most less lowered i = omega (arith, less i, low_high i, lowered i)

-- low and high hold the shortest and the longest times; least is low after the unit, and most is high less what low lost
module _ (p : Contents) (D : Choice) (ok : Sound p) (t : ℕ) (was low high least most : List ℕ) (whole : length was ≡ 64)
    (reach : ReachesTo p t was (count p) low high) (served : Served p D t (take (count p) low) (take (count p) least))
    (rest : drop (count p) least ≡ drop (count p) low) (long_least : length least ≡ 64)
    (lowered : (i : ℕ) → get_or most i 0 ≡ get_or high i 0 - (get_or low i 0 - get_or least i 0)) where
  few : count p ≤ 64
  few = ok.few

  -- past the last handler nothing changed
  past_is : (i : ℕ) → count p ≤ i → (get_or least i 0 ≡ get_or was i 0) × (get_or most i 0 ≡ get_or was i 0)
  past_is i h =
      let j = i - count p in
      let e : count p + j ≡ i = omega arith in
      let a : get_or least i 0 ≡ get_or low i 0 =
      subst (λ k. get_or least k 0 ≡ get_or low k 0) e (sym (get_or-drop (count p) least j 0) ∙ ap (λ l. get_or l j 0) rest ∙ get_or-drop (count p) low j 0) in
      let b : get_or low i 0 ≡ get_or was i 0 = reach.same_low i (λ s. omega (arith, s.0)) in
      let c : get_or high i 0 ≡ get_or was i 0 = reach.same_high i (λ s. omega (arith, s.0)) in
      (a ∙ b, omega (arith, lowered i))

  -- one place, from the shortest time to the longest, before the unit and after it
  record AtPlace (i : ℕ) : Type 0 where
    starting : Starts p t i → (get_or low i 0 ≡ (at p i).shortest) × (get_or high i 0 ≡ (at p i).longest)
    staying : ¬ Starts p t i → (get_or low i 0 ≡ get_or was i 0) × (get_or high i 0 ≡ get_or was i 0)
    ordered : get_or low i 0 ≤ get_or high i 0
    ran : Running p D t (take (count p) low) i → get_or low i 0 ≡ suc (get_or least i 0)
    waited : ¬ Running p D t (take (count p) low) i → get_or least i 0 ≡ get_or low i 0

  at_place : (i : ℕ) → i < count p → AtPlace i
  at_place i h = record {
    starting = λ s. (reach.least i (h, s), reach.most i (h, s));
    staying = λ k. (reach.same_low i (λ s. k s.1), reach.same_high i (λ s. k s.1));
    ordered = low_high p ok t was low high reach i;
    ran = λ r. sym (get_or-take (count p) low i 0 h) ∙ served.ran i h r ∙ ap suc (get_or-take (count p) least i 0 h);
    waited = λ k. sym (get_or-take (count p) least i 0 h) ∙ served.waited i h k ∙ get_or-take (count p) low i 0 h;
  }

  shortest_started : Started p t (take (count p) was) (take (count p) low)
  shortest_started = record {
    long = length-take-le (count p) low (omega (arith, reach.long_low, whole, few));
    fresh = λ i h s. let e = get_or-take (count p) low i 0 h in omega (arith, e, reach.least i (h, s), (ok.ranges i h).2);
    same = λ i h k. get_or-take (count p) low i 0 h ∙ reach.same_low i (λ s. k s.1) ∙ sym (get_or-take (count p) was i 0 h);
  }

  -- ---- from a step to a row

  module _ (u v : List ℕ) (started : Started p t (take (count p) was) u) (stepped : Served p D t u v) where
    -- who runs is the same as with the shortest times
    runs_there : (i : ℕ) → i < count p → Running p D t u i → Running p D t (take (count p) low) i
    runs_there = running_same p ok t (take (count p) was) D u (take (count p) low) started shortest_started

    runs_here : (i : ℕ) → i < count p → Running p D t (take (count p) low) i → Running p D t u i
    runs_here = running_same p ok t (take (count p) was) D (take (count p) low) u shortest_started started

    begun_between : (i : ℕ) → i < count p → (get_or low i 0 ≤ left u i) × (left u i ≤ get_or high i 0)
    begun_between i h = go (starts_decided p t i)
      where
        a : AtPlace i
        a = at_place i h

        go : Dec (Starts p t i) → (get_or low i 0 ≤ left u i) × (left u i ≤ get_or high i 0)
        go (yes s) = (omega (arith, (a.starting s).0, (started.fresh i h s).0), omega (arith, (a.starting s).1, (started.fresh i h s).1))
        go (no k) =
            let e : left u i ≡ get_or was i 0 = started.same i h k ∙ get_or-take (count p) was i 0 h in
            (omega (arith, (a.staying k).0), omega (arith, (a.staying k).1))

    done_between : (i : ℕ) → i < count p → (get_or least i 0 ≤ left v i) × (left v i ≤ get_or most i 0)
    done_between i h = go (running_decided p D ok t u i h)
      where
        a : AtPlace i
        a = at_place i h

        b : (get_or low i 0 ≤ left u i) × (left u i ≤ get_or high i 0)
        b = begun_between i h

        go : Dec (Running p D t u i) → (get_or least i 0 ≤ left v i) × (left v i ≤ get_or most i 0)
        go (yes r) =
            let e : left u i ≡ suc (left v i) = stepped.ran i h r in
            let f : get_or low i 0 ≡ suc (get_or least i 0) = a.ran (runs_there i h r) in
            (omega (arith, b.0), omega (arith, b.1, lowered i))
        go (no k) =
            let e : left v i ≡ left u i = stepped.waited i h k in
            let f : get_or least i 0 ≡ get_or low i 0 = a.waited (λ r. k (runs_here i h r)) in
            (omega (arith, b.0), omega (arith, b.1, lowered i))

    -- the row that holds v, with the other places as they were
    unfoldable pub row : List ℕ
    row = v ++ drop (count p) was

    row_front : (i : ℕ) → i < count p → get_or row i 0 ≡ left v i
    unfolding row
    row_front i h = get_or_append_left v (drop (count p) was) 0 i (omega (arith, stepped.long))

    row_back : (i : ℕ) → count p ≤ i → get_or row i 0 ≡ get_or was i 0
    unfolding row
    row_back i h =
        let e : count p + (i - count p) ≡ i = omega arith in
        get_or-append_right v (drop (count p) was) (count p) i 0 stepped.long h ∙ get_or-drop (count p) was (i - count p) 0 ∙ ap (λ k. get_or was k 0) e

    pub row_between : Between least most row
    unfolding row
    row_between = record {
      long = length-append v (drop (count p) was) ∙ (let e = length-drop (count p) was in omega (arith, stepped.long, whole, few));
      above = λ i.
          elim (cases_lt i (count p)) [
            | inl h ↦ omega (arith, row_front i h, (done_between i h).0)
            | inr h ↦ omega (arith, row_back i h, (past_is i h).0)
          ];
      below = λ i.
          elim (cases_lt i (count p)) [
            | inl h ↦ omega (arith, row_front i h, (done_between i h).1)
            | inr h ↦ omega (arith, row_back i h, (past_is i h).1)
          ];
    }

    pub row_holds : take (count p) row ≡ v
    unfolding row
    row_holds = take-append-le (count p) v (drop (count p) was) (omega (arith, stepped.long)) ∙ take_all (count p) v (omega (arith, stepped.long))

  -- ---- from a row to a step

  module _ (x : List ℕ) (b : Between least most x) where
    pub row_rest : drop (count p) x ≡ drop (count p) was
    row_rest =
        drop_same (count p) x was (b.long ∙ sym whole) (λ i h. omega (arith, b.above i, b.below i, (past_is i h).0, (past_is i h).1))

    -- the time left after the starts: what the row has and what was lost
    begun_at : ℕ → ℕ
    begun_at i = get_or x i 0 + (get_or low i 0 - get_or least i 0)

    begun : List ℕ
    begun = made (count p) begun_at

    begun_is : (i : ℕ) → i < count p → left begun i ≡ get_or x i 0 + (get_or low i 0 - get_or least i 0)
    unfolding begun begun_at
    begun_is i h = made_left (count p) begun_at i h

    row_started : Started p t (take (count p) was) begun
    unfolding begun
    row_started = record { long = made_long (count p) begun_at; fresh = fresh; same = same }
      where
        lost : (i : ℕ) → i < count p → AtPlace i → Dec (Running p D t (take (count p) low) i) → (get_or low i 0 ≤ left begun i) × (left begun i ≤ get_or high i 0)
        lost i h a (yes r) = (omega (arith, begun_is i h, a.ran r, b.above i), omega (arith, begun_is i h, a.ran r, a.ordered, b.below i, lowered i))
        lost i h a (no k) = (omega (arith, begun_is i h, a.waited k, b.above i), omega (arith, begun_is i h, a.waited k, b.below i, lowered i))

        spans : (i : ℕ) → i < count p → (get_or low i 0 ≤ left begun i) × (left begun i ≤ get_or high i 0)
        spans i h = lost i h (at_place i h) (running_decided p D ok t (take (count p) low) i h)

        fresh : (i : ℕ) → i < count p → Starts p t i → ((at p i).shortest ≤ left begun i) × (left begun i ≤ (at p i).longest)
        fresh i h s = (omega (arith, (spans i h).0, ((at_place i h).starting s).0), omega (arith, (spans i h).1, ((at_place i h).starting s).1))

        same : (i : ℕ) → i < count p → ¬ Starts p t i → left begun i ≡ left (take (count p) was) i
        same i h k = omega (arith, (spans i h).0, (spans i h).1, ((at_place i h).staying k).0, ((at_place i h).staying k).1, get_or-take (count p) was i 0 h)

    row_served : Served p D t begun (take (count p) x)
    row_served = record {
      long = length-take-le (count p) x (omega (arith, b.long, few));
      ran = λ i h r.
          let f : get_or low i 0 ≡ suc (get_or least i 0) =
          (at_place i h).ran (running_same p ok t (take (count p) was) D begun (take (count p) low) row_started shortest_started i h r) in
          omega (arith, begun_is i h, get_or-take (count p) x i 0 h);
      waited = λ i h k.
          let f : get_or least i 0 ≡ get_or low i 0 =
          (at_place i h).waited (λ r. k (running_same p ok t (take (count p) was) D (take (count p) low) begun shortest_started row_started i h r)) in
          omega (arith, begun_is i h, get_or-take (count p) x i 0 h);
    }

    pub row_step : Step p D t (take (count p) was) (take (count p) x)
    row_step = (begun, row_started, row_served)

module _ (p : Contents) (D : Choice) (ok : Sound p) (t : ℕ) (s low high least most : State)
    (reach : ReachesTo p t s.left (count p) low.left high.left) (served : Served p D t (times p low) (times p least))
    (rest : drop (count p) least.left ≡ drop (count p) low.left)
    (lowered : (i : ℕ) → get_or most.left i 0 ≡ get_or high.left i 0 - (get_or low.left i 0 - get_or least.left i 0)) where
  -- all rows between the two are still to come, and these are the steps
  pub follow : (q : Successors) → q.next ≡ Some least → q.low.left ≡ least.left → q.high.left ≡ most.left → SuccessorsOf p D t s q
  follow q going low_is high_is = record {
    each = λ v (u, started, stepped).
        let x = row p D ok t s.left low.left high.left least.left most.left s.whole reach served rest least.whole lowered u v started stepped in
        let b = row_between p D ok t s.left low.left high.left least.left most.left s.whole reach served rest least.whole lowered u v started stepped in
        (x, all x b, row_holds p D ok t s.left low.left high.left least.left most.left s.whole reach served rest least.whole lowered u v started stepped);
    only = λ x c. row_step p D ok t s.left low.left high.left least.left most.left s.whole reach served rest least.whole lowered x (between x c);
    rest = λ x c. row_rest p D ok t s.left low.left high.left least.left most.left s.whole reach served rest least.whole lowered x (between x c);
  }
    where
      between : (x : List ℕ) → Coming q x → Between least.left most.left x
      between x c = subst₂ (λ a b. Between a b x) low_is high_is c.between

      all : (x : List ℕ) → Between least.left most.left x → Coming q x
      all x b = record {
        between = subst₂ (λ a b. Between a b x) (sym low_is) (sym high_is) b;
        later = rw going (least_first least.left most.left x least.whole b);
      }
