-- The rows of marks: those of the mark times so far, and what they say of the tests at a mark time.
use Rattle.std.proofs.Common.{◌≡◌, ℕ, ◌+◌, ◌<◌, ◌≤◌, List, [], ◌++◌, map, length, sym, ap, ◌∙◌, subst, inl, inr, arith}
use native.Mathlib.Decide.{ℕ_discrete, dec_lt}
use Rattle.std.specs.List.{Contains as Has}
use Rattle.std.proofs.lemmas.List.{length-map}
use Rattle.std.proofs.lemmas.List.Elements.{Contains-append_left, Contains-append_right, Contains-append_cases}
use Rattle.gather.specs.Levels.{Once, Collects, Fresh}
use Rattle.gather.proofs.Counting.{once_fits}
use Rattle.policy.specs.Laws.{Choice}
use Rattle.plan.specs.Contents.{Contents}
use Rattle.model.specs.Runs.{StateAt, mark, Marked}
use Rattle.model.specs.Verdicts.{Outnumber, Number, Closes, Passes}
use Rattle.model.proofs.Lists.{has_map, has_map_cases}
use Rattle.model.proofs.Marks.{mark_before}
use Rattle.model.specs.declared.states.State.{State}
use Rattle.model.specs.Memory.{times}
use Rattle.checker.specs.Fronts.{Front}
use Rattle.model.specs.Memory.{Holds}
use Rattle.checker.proofs.Holding.{holds_one, times_once}
use Rattle.model.specs.Checks.{HoldsMarks}
use Rattle.checker.specs.Walks.{Quiet}

-- the rows hold the states at the first n mark times
pub record MarkRows (p : Contents) (D : Choice) (n : ℕ) (rows : List State) : Type 0 where
  pub each : (j : ℕ) → j < n → (v : List ℕ) → StateAt p D (mark p j) v → (x : State) × Has rows x × Holds p x v
  pub only : (x : State) → Has rows x → (j : ℕ) × (j < n) × (v : List ℕ) × StateAt p D (mark p j) v × Holds p x v

module _ (p : Contents) (D : Choice) where
  pub no_rows : MarkRows p D 0 []
  no_rows = record { each = λ j l. absurd (omega arith); only = λ x h. absurd (omega (arith, h.1)) }

  one_state : (x : State) (v w : List ℕ) → Holds p x v → Holds p x w → v ≡ w
  one_state x v w a b = sym a.left ∙ b.left

  module _ (n : ℕ) (seen rows : List State) (m : MarkRows p D n seen) (f : Front p D (mark p n) rows) where
    pub more_rows : MarkRows p D (n + 1) (seen ++ rows)
    more_rows = record {
      each = λ j l v a. here j l v a (ℕ_discrete j n);
      only = λ x h. elim (Contains-append_cases seen rows x h) [
        | inl k ↦ (let o = m.only x k in (o.0, omega (arith, o.1), o.2, o.3, o.4))
        | inr k ↦ (let o = f.only x k in (n, omega arith, o.0, o.1, o.2))
      ];
    }
      where
        here : (j : ℕ) → j < n + 1 → (v : List ℕ) → StateAt p D (mark p j) v → Dec (j ≡ n) → (x : State) × Has (seen ++ rows) x × Holds p x v
        here j l v a (yes e) = let r = f.each v (subst (λ i. StateAt p D (mark p i) v) e a) in (r.0, Contains-append_right seen rows r.0 r.1, r.2)
        here j l v a (no e) = let r = m.each j (omega arith) v a in (r.0, Contains-append_left seen rows r.0 r.1, r.2)

    -- a new row is a new mark
    pub stays_open : Fresh seen rows → ¬ Closes p D n
    stays_open (x, has, new) (some, old) =
        let r = f.only x has in
        let o = old r.0 r.1 in
        let y = m.each o.0 (omega (arith, o.1, some)) r.0 o.2 in
        new (subst (Has seen) (holds_one p y.0 x r.0 r.0 y.2 r.2 (y.2.left ∙ sym r.2.left)) y.1)

    -- where every row stood there before, no mark is new
    pub closes : 1 ≤ n → ((x : State) → Has rows x → Has seen x) → Closes p D n
    closes some old = (
      some,
      λ v a. (
          let r = f.each v a in
          let o = m.only r.0 (old r.0 r.1) in
          (o.0, omega (arith, o.1), subst (StateAt p D (mark p o.0)) (one_state r.0 o.2 v o.4 r.2) o.3)),
    )

  -- the rows in a table hold each mark so far
  module _ (n : ℕ) (seen all : List State) (m : MarkRows p D n seen) (k : ℕ) (is : n ≡ k + 1) where
    marked_row : ((x : State) → Has seen x → Has all x) → (v : List ℕ) → Marked p D k v → (x : State) × Has all x × Holds p x v
    marked_row in_all v (j, l, a) = let r = m.each j (omega (arith, l, is)) v a in (r.0, in_all r.0 r.1, r.2)

    pub row_marked : (x : State) → Has seen x → (v : List ℕ) × Marked p D k v × Holds p x v
    row_marked x h = let o = m.only x h in (o.2, (o.0, omega (arith, o.1, is), o.3), o.4)

    pub marks_held : Collects seen all → HoldsMarks p D k all
    marks_held c = record { once = c.once; each = marked_row c.each; only = λ x h. row_marked x (c.only x h) }

    -- so they are no more than the rows
    pub marks_fit : (room : ℕ) → ((x : State) → Has seen x → Has all x) → length all ≤ room → ¬ Outnumber (Marked p D k) room
    marks_fit room in_all few o =
        let in_rows : (v : List ℕ) → Has o.states v → Has (map (times p) all) v = λ v h. (let r = marked_row in_all v (o.such v h) in subst (Has (map (times p) all)) r.2.left (has_map (times p) r.0 all r.1)) in
        let le : length o.states ≤ length (map (times p) all) = once_fits o.states (map (times p) all) o.once in_rows in
        omega (arith, le, few, o.many, length-map all (times p))

  -- rows that hold marks, each once, are as many states
  module _ (k : ℕ) (rows : List State) (once : Once rows) (d : State) (hold : (x : State) → Has rows x → (v : List ℕ) × Marked p D k v × Holds p x v) where
    state_marked : (v : List ℕ) → Has (map (times p) rows) v → Marked p D k v
    state_marked v h =
        let r = has_map_cases (times p) v rows h in
        let o = hold r.0 r.1 in
        subst (Marked p D k) (sym o.2.left ∙ r.2) o.1

    states_once : Once (map (times p) rows)
    states_once = times_once p rows d (λ x h. (let o = hold x h in (o.0, o.2))) once

  pub marks_number : (k : ℕ) (all : List State) → State → HoldsMarks p D k all → Number (Marked p D k) (length all)
  marks_number k all d h = record {
    states = map (times p) all;
    once = states_once k all h.once d h.only;
    such = state_marked k all h.once d h.only;
    all = λ v a. (let r = h.each v a in subst (Has (map (times p) all)) r.2.left (has_map (times p) r.0 all r.1));
    many = length-map all (times p);
  }

  pub marks_outnumber : (k room : ℕ) (rows : List State) → State → Once rows → ((x : State) → Has rows x → (v : List ℕ) × Marked p D k v × Holds p x v) → room < length rows → Outnumber (Marked p D k) room
  marks_outnumber k room rows d once hold more = record {
    states = map (times p) rows;
    once = states_once k rows once d hold;
    such = state_marked k rows once d hold;
    many = omega (arith, more, length-map rows (times p));
  }

  -- times before T pass, where all is quiet and the mark times among them have been tested
  module _ (w room n T : ℕ) (tests : (k : ℕ) → k < n → (¬ Closes p D k) × (¬ Outnumber (Marked p D k) room)) (quiet : (e : ℕ) → e < T → Quiet p D w e) (soon : T ≤ mark p n) where
    early : (e k : ℕ) → e < T → e ≡ mark p k → k < n
    early e k l is = go (dec_lt n k) (ℕ_discrete n k)
      where
        go : Dec (n < k) → Dec (n ≡ k) → k < n
        go (yes h) x = absurd (omega (arith, mark_before p n k h, l, soon, is))
        go (no h) (yes x) = absurd (omega (arith, ap (mark p) x, l, soon, is))
        go (no h) (no x) = omega arith

    pub passes : (e : ℕ) → e < T → Passes p D w room e
    passes e l = record {
      fits = (quiet e l).fits;
      timely = (quiet e l).timely;
      opens = λ k is. (tests k (early e k l is)).0;
      holds = λ k is. (tests k (early e k l is)).1;
    }
