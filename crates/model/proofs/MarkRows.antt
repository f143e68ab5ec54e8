-- Rows for the marks of a kept verdict: there is a row for each state, and as many rows as are needed.
use Rattle.std.proofs.Common.{◌≡◌, ℕ, zero, suc, ◌+◌, ◌-◌, ◌<◌, ◌≤◌, List, [], ◌++◌, map, length, get_or, take, drop, replicate, sym, refl, ap, ◌∙◌, subst, arith}
use native.Mathlib.Decide.{dec_le}
use Rattle.std.specs.List.{Contains as Has}
use Rattle.std.proofs.lemmas.List.{length-append, length-drop, length-map, length-replicate, length-take-le, take-append-le, drop-append-le, take_all, take-take, drop_all, drop-take, take-replicate, get_or-map}
use Rattle.std.proofs.Math.Seq.{take-append_seam, drop-append_seam}
use Rattle.std.proofs.lemmas.List.Elements.{Contains-get_or}
use Rattle.gather.specs.Levels.{Once}
use Rattle.policy.specs.Laws.{Choice}
use Rattle.plan.specs.Contents.{Contents, Sound, count}
use Rattle.model.specs.declared.verdicts.Verdict.TheVariants.{Kept}
use Rattle.model.specs.Runs.{StateAt, mark, Marked}
use Rattle.model.specs.Verdicts.{Number, VerdictIs}
use Rattle.model.proofs.Lists.{has_map, has_map_cases}
use Rattle.model.proofs.Marks.{mark_before, round_some}
use Rattle.model.specs.declared.states.State.{State}
use Rattle.model.specs.Memory.{times}
use Rattle.model.specs.Memory.{Holds}
use Rattle.model.specs.Checks.{HoldsMarks, LeavesMarks}

-- the row of these times left, and 0 past the last
pub row_of : List ℕ → State
row_of v = record { left = take 64 (v ++ replicate 64 0); whole = length-take-le 64 (v ++ replicate 64 0) (omega (arith, length-append v (replicate 64 0), length-replicate {A = ℕ} 64 0)) }

module _ (p : Contents) (D : Choice) (ok : Sound p) where
  -- a state has a time left for each handler
  state_long : (t : ℕ) (v : List ℕ) → StateAt p D t v → length v ≡ count p
  state_long zero v (run, r, e) = ap length (sym e ∙ r.begins) ∙ length-replicate (count p) 0
  state_long (suc t) v (run, r, e) = ap length (sym e) ∙ (r.goes t).2.long

  row_holds : (v : List ℕ) → length v ≡ count p → Holds p (row_of v) v
  unfolding row_of
  row_holds v long = record { left = first; blank = past }
    where
      whole : 64 ≡ count p + (64 - count p)
      whole = omega (arith, ok.few)

      first : take (count p) (take 64 (v ++ replicate 64 0)) ≡ v
      first =
          take-take (count p) 64 (v ++ replicate 64 0) ok.few ∙ take-append-le (count p) v (replicate 64 0) (omega (arith, long)) ∙ take_all (count p) v (omega (arith, long))

      past : drop (count p) (take 64 (v ++ replicate 64 0)) ≡ replicate (64 - count p) 0
      past =
          ap (λ n. drop (count p) (take n (v ++ replicate 64 0))) whole ∙ drop-take (count p) (64 - count p) (v ++ replicate 64 0)
          ∙ ap (take (64 - count p)) (drop-append-le (count p) v (replicate 64 0) (omega (arith, long)) ∙ ap (λ l. l ++ replicate 64 0) (drop_all (count p) v (omega (arith, long))))
          ∙ take-replicate (64 - count p) 64 0 (omega arith)

  -- the rows of states of some time hold these states, each once
  module _ (k : ℕ) (states : List (List ℕ)) (once : Once states) (such : (v : List ℕ) → Has states v → Marked p D k v) (all : (v : List ℕ) → Marked p D k v → Has states v) where
    holds_each : (v : List ℕ) → Has states v → Holds p (row_of v) v
    holds_each v h = let m = such v h in row_holds v (state_long (mark p m.0) v m.2)

    once_rows : Once (map row_of states)
    once_rows i j d lt end same =
        let jl : j < length states = omega (arith, end, length-map states row_of) in
        let il : i < length states = omega (arith, lt, jl) in
        let x = get_or states i [] in
        let y = get_or states j [] in
        let rows : row_of x ≡ row_of y = sym (get_or-map row_of states i [] d il) ∙ same ∙ get_or-map row_of states j [] d jl in
        let one : x ≡ y = sym (holds_each x (Contains-get_or states i [] il)).left ∙ ap (times p) rows ∙ (holds_each y (Contains-get_or states j [] jl)).left in
        once i j [] lt jl one

    rows_hold : HoldsMarks p D k (map row_of states)
    rows_hold = record {
      once = once_rows;
      each = λ v m. (row_of v, has_map row_of v states (all v m), holds_each v (all v m));
      only = λ x h. (let r = has_map_cases row_of x states h in (r.0, such r.0 r.1, subst (λ y. Holds p y r.0) r.2 (holds_each r.0 r.1)));
    }

  -- after a kept verdict the mark table has room for the marks
  module _ (w m k c : ℕ) (v : VerdictIs p D w m (Kept k c)) where
    number : Number (Marked p D (k - 1)) c
    number = v.2.4

    room : c ≤ m
    room = go (dec_le c m)
      where
        go : Dec (c ≤ m) → c ≤ m
        go (yes l) = l
        go (no n) = absurd ((v.1 (mark p (k - 1)) (omega (arith, v.2.0, mark_before p (k - 1) k (omega (arith, v.2.3.0)), round_some p ok))).holds (k - 1) refl
            (record { states = number.states; once = number.once; such = number.such; many = omega (arith, number.many) }))

  pub marks_fit : (w k c : ℕ) (was : List State) → VerdictIs p D w (length was) (Kept k c) → (is : List State) × (length is ≡ length was) × LeavesMarks p D (k - 1) c was is
  marks_fit w k c was v =
      let n = number w (length was) k c v in
      let fits : c ≤ length was = room w (length was) k c v in
      let rows = map row_of n.states in
      let long : length rows ≡ c = length-map n.states row_of ∙ n.many in
      let now = rows ++ drop c was in
      let same : length now ≡ length was = omega (arith, long, fits, length-append rows (drop c was), length-drop c was) in
      let first : take c now ≡ rows = ap (λ i. take i now) (sym long) ∙ take-append_seam rows (drop c was) in
      let rest : drop c now ≡ drop c was = ap (λ i. drop i now) (sym long) ∙ drop-append_seam rows (drop c was) in (
        now,
        same,
        record {
          fits = omega (arith, same, fits);
          marks = subst (HoldsMarks p D (k - 1)) (sym first) (rows_hold (k - 1) n.states n.once n.such n.all);
          rest = rest;
        },
      )
