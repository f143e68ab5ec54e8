-- A plan that is kept up to a mark time with known states is kept for ever, and has no other states at mark times.
use Rattle.std.proofs.Common.{◌≡◌, ℕ, zero, suc, ◌+◌, ◌-◌, ◌*◌, ◌/◌, ◌%◌, ◌<◌, ◌≤◌, sym, refl, ap, ◌∙◌, subst, add-zero, add-suc, mod-lt, div-add-mod', arith}
use Prim.Native.Nat.{◌∣◌}
use native.Mathlib.Decide.{dec_le, dec_lt, ℕ_discrete}
use native.Mathlib.Nat.{dvd-add_iff_left, le_of_dvd}
use Rattle.policy.specs.Laws.{Choice, IsLawfulChoice}
use Rattle.plan.specs.Contents.{Contents, Sound, at, round, settling}
use Rattle.model.specs.Units.{State, Step}
use Rattle.model.specs.Runs.{Run, StateAt, Misses, mark, Marked}
use Rattle.model.specs.Verdicts.{Closes}
use Rattle.model.specs.Theorems.{KeptIsNeverLate, KeptCountsAllMarks, MissedIsTheEarliest}
use Rattle.model.proofs.Marks.{round_some, rounds_divide, settled, mark_later, mark_next, mark_before}
use Rattle.model.proofs.Extend.{state_after}
use Rattle.model.proofs.Repeat.{Leads, leads_earlier}

module _ (p : Contents) (D : Choice) where
  run_leads : (run : ℕ → State) → Run p D run → (t n : ℕ) → Leads p D n t (run t) (run (t + n))
  run_leads run r t zero = ap run (sym (add-zero t))
  run_leads run r t (suc n) = (
    run (t + n),
    run_leads run r t n,
    subst (λ (x : ℕ). Step p D (t + n) (run (t + n)) (run x)) (sym (add-suc t n)) (r.goes (t + n)),
  )

  module _ (ok : Sound p) (law : IsLawfulChoice D) where
    leads_state : (n t : ℕ) (s v : State) → StateAt p D t s → Leads p D n t s v → StateAt p D (t + n) v
    leads_state zero t s v a l = (a.0, a.1, ap a.0 (add-zero t) ∙ a.2 ∙ l)
    leads_state (suc n) t s v a (u, l, step) =
        subst (λ (x : ℕ). StateAt p D x v) (sym (add-suc t n))
        (state_after p D ok (t + n) u v (leads_state n t s u a l) step)

    -- what follows a state at a later mark time follows it at an earlier one too
    moved : (i d n : ℕ) (s v : State) → StateAt p D (mark p i) s → Leads p D n (mark p (i + d)) s v → StateAt p D (mark p i + n) v
    moved i d n s v a l =
        leads_state n (mark p i) s v a
        (leads_earlier p D law (d * round p) (rounds_divide p ok d) n (mark p i) s v (omega arith)
        (subst (λ (x : ℕ). Leads p D n x s v) (mark_later p i d) l))

    module _ (k : ℕ) (closes : Closes p D k) where
      -- a state at one of the mark times before the k-th
      abbrev Known : State → Type 0
      Known s = (i : ℕ) × (i < k) × StateAt p D (mark p i) s

      at_close : (s : State) → StateAt p D (mark p k) s → Known s
      at_close s a =
          let m = closes.1 s a in
          let low : 1 ≤ k = closes.0 in
          let up : m.0 ≤ k - 1 = m.1 in
          (m.0, omega arith, m.2)

      -- each state at a later mark time is known
      known : (j : ℕ) (s : State) → StateAt p D (mark p (k + j)) s → Known s
      known zero s a = at_close s (subst (λ (x : ℕ). StateAt p D (mark p x) s) (add-zero k) a)
      known (suc j) s (run, r, e) = go (known j (run (mark p (k + j))) (run, r, refl))
        where
          to_s : run (mark p (k + j) + round p) ≡ s
          to_s = ap run (sym (ap (mark p) (add-suc k j) ∙ mark_next p (k + j))) ∙ e

          leads : Leads p D (round p) (mark p (k + j)) (run (mark p (k + j))) s
          leads = subst (Leads p D (round p) (mark p (k + j)) (run (mark p (k + j)))) to_s (run_leads run r (mark p (k + j)) (round p))

          next : (i : ℕ) → Dec (suc i < k) → i < k → StateAt p D (mark p (suc i)) s → Known s
          next i (yes h) l a = (suc i, h, a)
          next i (no h) l a =
              let q : suc i ≡ k = omega arith in
              at_close s (subst (λ (x : ℕ). StateAt p D (mark p x) s) q a)

          go : Known (run (mark p (k + j))) → Known s
          go (i, l, a) =
              let d : ℕ = k + j - i in
              let q : k + j ≡ i + d = omega arith in
              next i (dec_lt (suc i) k) l
              (subst (λ (x : ℕ). StateAt p D x s) (sym (mark_next p i))
              (moved i d (round p) (run (mark p (k + j))) s a
              (subst (λ (x : ℕ). Leads p D (round p) (mark p x) (run (mark p (k + j))) s) q leads)))

      -- a state at any mark time was a mark before k
      all_marked : (j : ℕ) (s : State) → StateAt p D (mark p j) s → Marked p D (k - 1) s
      all_marked j s a = go (dec_lt j k)
        where
          go : Dec (j < k) → Marked p D (k - 1) s
          go (yes h) = (j, omega arith, a)
          go (no h) =
              let q : j ≡ k + (j - k) = omega arith in
              let r = known (j - k) s (subst (λ (x : ℕ). StateAt p D (mark p x) s) q a) in
              let l : r.0 < k = r.1 in
              (r.0, omega arith, r.2)

      -- late after the close is late before it
      earlier : (q y : ℕ) → 0 < y → y ≤ round p → (i : ℕ) → Misses p D (mark p (k + q) + y) i → (e : ℕ) × (e ≤ mark p k) × Misses p D e i
      earlier q y low high h (s, (run, r, e), late) = go (known q (run (mark p (k + q))) (run, r, refl))
        where
          go : Known (run (mark p (k + q))) → (e : ℕ) × (e ≤ mark p k) × Misses p D e h
          go (i, l, a) =
              let d : ℕ = k + q - i in
              let apart : k + q ≡ i + d = omega arith in
              let lead : Leads p D y (mark p (k + q)) (run (mark p (k + q))) s =
              subst (Leads p D y (mark p (k + q)) (run (mark p (k + q)))) e (run_leads run r (mark p (k + q)) y) in
              let there : StateAt p D (mark p i + y) s =
              moved i d y (run (mark p (k + q))) s a (subst (λ (x : ℕ). Leads p D y (mark p x) (run (mark p (k + q))) s) apart lead) in
              let past : (at p h).offset ≤ settling p = settled p h late.known in
              let far : mark p (k + q) ≡ mark p i + d * round p = ap (mark p) apart ∙ mark_later p i d in
              let sum : mark p (k + q) + y - (at p h).offset ≡ mark p i + y - (at p h).offset + d * round p = omega arith in
              let turn : (at p h).period ∣ mark p i + y - (at p h).offset =
              (dvd-add_iff_left (at p h).period {m = mark p i + y - (at p h).offset} (rounds_divide p ok d h late.known)).1
              (subst (λ (x : ℕ). (at p h).period ∣ x) sum late.turn) in
              let pos : 0 < mark p i + y - (at p h).offset = omega arith in
              let fits : (at p h).period ≤ mark p i + y - (at p h).offset = le_of_dvd pos turn in
              let before : mark p i + round p ≤ mark p k = mark_before p i k l in (
                mark p i + y,
                omega arith,
                (s, there, record { known = late.known; due = omega arith; turn = turn; working = late.working }),
              )

      never_late : ((e : ℕ) → e ≤ mark p k → (i : ℕ) → ¬ Misses p D e i) → (t i : ℕ) → ¬ Misses p D t i
      never_late quiet t h miss = go (dec_le t (mark p k))
        where
          go : Dec (t ≤ mark p k) → ⊥
          go (yes l) = quiet t l h miss
          go (no l) =
              let x : ℕ = t - suc (mark p k) in
              let q : ℕ = x / round p in
              let y : ℕ = suc (x % round p) in
              let split : x / round p * round p + x % round p ≡ x = div-add-mod' x (round p) in
              let low : x % round p < round p = mod-lt x (round_some p ok) in
              let far : mark p (k + q) ≡ mark p k + q * round p = mark_later p k q in
              let e : t ≡ mark p (k + q) + y = omega arith in
              let found = earlier q y (omega arith) (omega arith) h (subst (λ (z : ℕ). Misses p D z h) e miss) in
              quiet found.0 found.1 h found.2

pub kept_is_never_late : KeptIsNeverLate
kept_is_never_late p D ok law working marks k c (t, before, (at_mark, fits, timely, closes, number)) run r e i late =
    never_late p D ok law k closes (λ e l i. quiet e l i (ℕ_discrete e (mark p k))) e i (run e, (run, r, refl), late)
  where
    quiet : (e : ℕ) → e ≤ mark p k → (i : ℕ) → Dec (e ≡ mark p k) → ¬ Misses p D e i
    quiet e l i (yes q) miss = timely i (subst (λ (x : ℕ). Misses p D x i) (q ∙ sym at_mark) miss)
    quiet e l i (no q) miss = (before e (omega arith)).timely i miss

pub kept_counts_all_marks : KeptCountsAllMarks
kept_counts_all_marks p D ok law working marks k c (t, before, (at_mark, fits, timely, closes, number)) = (
  record {
    states = number.states;
    once = number.once;
    such = λ s h. (let m = number.such s h in (m.0, m.2));
    all = λ s a. number.all s (all_marked p D ok law k closes a.0 s a.1);
    many = number.many;
  },
  all_marked p D ok law k closes,
)

pub missed_is_the_earliest : MissedIsTheEarliest
missed_is_the_earliest p D working marks t n (e, before, (same, fits, (i, number, late, lowest))) =
    record {
      place = i;
      number = number;
      late = subst (λ (x : ℕ). Misses p D x i) (sym same) late;
      lowest = λ j l. subst (λ (x : ℕ). ¬ Misses p D x j) (sym same) (lowest j l);
      earliest = λ d l. (before d (omega arith)).timely;
    }
