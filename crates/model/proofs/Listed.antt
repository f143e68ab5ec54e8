-- The states that a state steps to, and the states at a time, as lists.
use Rattle.std.proofs.Common.{◌≡◌, ℕ, zero, suc, ◌+◌, ◌-◌, ◌<◌, ◌≤◌, ◌↔◌, List, [], ◌∷◌, map, length, sym, ◌∙◌, subst, zero-add, arith}
use mathlib.Core.Logic.{ite, if_pos, if_neg}
use Rattle.std.specs.List.{range_with_len, Contains as Has}
use Rattle.gather.proofs.Counting.{has_here}
use Rattle.policy.specs.Laws.{Choice}
use Rattle.plan.specs.Contents.{Contents, Sound, count, at}
use Rattle.model.specs.Units.{State, left, zeros, Starts, Started, Served, Step}
use Rattle.model.specs.Runs.{StateAt}
use Rattle.model.proofs.Deciding.{starts_decided}
use Rattle.model.proofs.Lists.{has_only, has_map, has_map_cases, flat, has_flat, has_flat_cases, has_counting, counting_has}
use Rattle.model.proofs.Lists.{products, has_products, products_has, each_from, from_each}
use Rattle.model.proofs.Extend.{finish, finish_ok, finish_only, some_run, beginnings_go_on}

module _ (p : Contents) where
  -- the times that a handler that starts may take
  taken : ℕ → List ℕ
  taken i = range_with_len (at p i).shortest (suc (at p i).longest - (at p i).shortest)

  -- the times left that a place may begin a unit with
  choices : ℕ → State → ℕ → List ℕ
  choices t s i = ite (starts_decided p t i) (taken i) (left s i ∷ [])

  choices_taken : (t : ℕ) (s : State) (i : ℕ) → Starts p t i → choices t s i ≡ taken i
  unfolding choices
  choices_taken t s i y = if_pos (starts_decided p t i) y (taken i) (left s i ∷ [])

  choices_left : (t : ℕ) (s : State) (i : ℕ) → ¬ Starts p t i → choices t s i ≡ left s i ∷ []
  unfolding choices
  choices_left t s i n = if_neg (starts_decided p t i) n (taken i) (left s i ∷ [])

  started : ℕ → State → List State
  started t s = products (map (choices t s) (range_with_len 0 (count p)))

  has_started : (t : ℕ) (s u : State) → Started p t s u → Has (started t s) u
  unfolding started taken
  has_started t s u st =
      has_products u (map (choices t s) (range_with_len 0 (count p)))
      (each_from (choices t s) 0 (count p) u st.long
      (λ i h. subst (λ (k : ℕ). Has (choices t s k) (left u i)) (sym (zero-add i)) (here i h (starts_decided p t i))))
    where
      here : (i : ℕ) → i < count p → Dec (Starts p t i) → Has (choices t s i) (left u i)
      here i h (yes y) =
          let b : ((at p i).shortest ≤ left u i) × (left u i ≤ (at p i).longest) = st.fresh i h y in
          subst (λ (l : List ℕ). Has l (left u i)) (sym (choices_taken t s i y))
          (has_counting (at p i).shortest (suc (at p i).longest - (at p i).shortest) (left u i) b.0 (omega arith))
      here i h (no n) =
          subst (λ (l : List ℕ). Has l (left u i)) (sym (choices_left t s i n))
          (subst (Has (left s i ∷ [])) (sym (st.same i h n)) (has_here (left s i) []))

  started_has : (t : ℕ) (s u : State) → Has (started t s) u → Started p t s u
  unfolding started taken
  started_has t s u h =
      record {
        long = r.0;
        fresh = λ i l y.
            let b = counting_has (at p i).shortest (suc (at p i).longest - (at p i).shortest) (left u i)
            (subst (λ (x : List ℕ). Has x (left u i)) (choices_taken t s i y) (here i l)) in
            (b.0, omega (arith, b.0, b.1));
        same = λ i l n. sym (has_only (left s i) (left u i) (subst (λ (x : List ℕ). Has x (left u i)) (choices_left t s i n) (here i l)));
      }
    where
      r : (length u ≡ count p) × ((i : ℕ) → i < count p → Has (choices t s (0 + i)) (left u i))
      r = from_each (choices t s) 0 (count p) u (products_has u (map (choices t s) (range_with_len 0 (count p))) h)

      here : (i : ℕ) → i < count p → Has (choices t s i) (left u i)
      here i l = subst (λ (k : ℕ). Has (choices t s k) (left u i)) (zero-add i) (r.1 i l)

module _ (p : Contents) (D : Choice) (ok : Sound p) where
  successors : ℕ → State → List State
  successors t s = map (finish p D ok t) (started p t s)

  step_listed : (t : ℕ) (s v : State) → Step p D t s v ↔ Has (successors t s) v
  unfolding successors
  step_listed t s v = (
    λ st. subst (Has (successors t s)) (sym (finish_only p D ok t st.0 v st.2))
        (has_map (finish p D ok t) st.0 (started p t s) (has_started p t s st.0 st.1)),
    λ h. let r = has_map_cases (finish p D ok t) v (started p t s) h in
        (r.0, started_has p t s r.0 r.1, subst (Served p D t r.0) r.2 (finish_ok p D ok t r.0)),
  )

  pub all_at : ℕ → List State
  all_at zero = zeros p ∷ []
  all_at (suc t) = flat (successors t) (all_at t)

  pub at_listed : (t : ℕ) (s : State) → StateAt p D t s ↔ Has (all_at t) s
  unfolding all_at
  at_listed zero s = (
    λ a. subst (Has (zeros p ∷ [])) (sym a.1.begins ∙ a.2) (has_here (zeros p) []),
    λ h. let r = some_run p D ok in (r.0, r.1, r.1.begins ∙ has_only (zeros p) s h),
  )
  at_listed (suc t) s = (
    λ a. let r = (beginnings_go_on p D ok t s).0 a in
        has_flat (successors t) r.0 s (all_at t) ((at_listed t r.0).0 r.1) ((step_listed t r.0 s).0 r.2),
    λ h. let r = has_flat_cases (successors t) s (all_at t) h in
        (beginnings_go_on p D ok t s).1 (r.0, (at_listed t r.0).1 r.1, (step_listed t r.0 s).1 r.2),
  )
