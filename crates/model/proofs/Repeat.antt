-- From the settling time on, units repeat a round later, and so does what several units lead to.
use Rattle.std.proofs.Common.{◌≡◌, ℕ, zero, suc, ◌+◌, ◌-◌, ◌<◌, ◌≤◌, ◌≢◌, ◌↔◌, sym, subst, arith}
use Prim.Native.Nat.{◌∣◌}
use native.Mathlib.Nat.{dvd-add_iff_left}
use Rattle.policy.specs.Laws.{Choice, IsLawfulChoice}
use Rattle.plan.specs.Contents.{Contents, count, at, round, settling}
use Rattle.model.specs.Units.{State, Starts, GoesBefore, Running, Step}
use Rattle.model.specs.Theorems.{UnitsRepeat}
use Rattle.model.proofs.Asking.{before_later}
use Rattle.model.proofs.Marks.{period_divides, settled}

-- two times at which the same happens
record Alike (p : Contents) (D : Choice) (t e : ℕ) : Type 0 where
  starts : (i : ℕ) → i < count p → Starts p t i ↔ Starts p e i
  orders : (i j : ℕ) → i < count p → j < count p → j ≢ i → GoesBefore p D t i j ↔ GoesBefore p D e i j

-- n units from the time t lead from s to v
abbrev pub Leads : Contents → Choice → ℕ → ℕ → State → State → Type 0
Leads p D zero t s v = s ≡ v
Leads p D (suc n) t s v = (u : State) × Leads p D n t s u × Step p D (t + n) u v

module _ (p : Contents) (D : Choice) where
  alike_back : (t e : ℕ) → Alike p D t e → Alike p D e t
  alike_back t e a =
      record {
        starts = λ i h. ((a.starts i h).1, (a.starts i h).0);
        orders = λ i j h k n. ((a.orders i j h k n).1, (a.orders i j h k n).0);
      }

  running_alike : (t e : ℕ) → Alike p D t e → (u : State) (i : ℕ) → i < count p → Running p D t u i → Running p D e u i
  running_alike t e a u i h r = record { ready = r.ready; first = λ j k n c y. (a.orders i j h k n).0 (r.first j k n c y) }

  step_alike : (t e : ℕ) → Alike p D t e → (s v : State) → Step p D t s v → Step p D e s v
  step_alike t e a s v (u, st, sv) = (
    u,
    record {
      long = st.long;
      fresh = λ i h x. st.fresh i h ((a.starts i h).1 x);
      same = λ i h x. st.same i h (λ y. x ((a.starts i h).0 y));
    },
    record {
      long = sv.long;
      ran = λ i h x. sv.ran i h (running_alike e t (alike_back t e a) u i h x);
      waited = λ i h x. sv.waited i h (λ y. x (running_alike t e a u i h y));
    },
  )

  -- any common multiple of the periods later
  module _ (law : IsLawfulChoice D) (q : ℕ) (common : (i : ℕ) → i < count p → (at p i).period ∣ q) where
    starts_later : (t : ℕ) → settling p ≤ t → (i : ℕ) → i < count p → Starts p t i ↔ Starts p (t + q) i
    starts_later t h i l =
        let past : (at p i).offset ≤ settling p = settled p i l in
        let e : t - (at p i).offset + q ≡ t + q - (at p i).offset = omega arith in
        let d = dvd-add_iff_left (at p i).period {m = t - (at p i).offset} (common i l) in (
          λ s. (omega arith, subst (λ (x : ℕ). (at p i).period ∣ x) e (d.0 s.1)),
          λ s. (omega arith, d.1 (subst (λ (x : ℕ). (at p i).period ∣ x) (sym e) s.1)),
        )

    alike_later : (t : ℕ) → settling p ≤ t → Alike p D t (t + q)
    alike_later t h =
        record {
          starts = starts_later t h;
          orders = λ i j a b n.
              let pi : (at p i).offset ≤ settling p = settled p i a in
              let pj : (at p j).offset ≤ settling p = settled p j b in
              before_later p D law t q i j n (omega arith) (omega arith) (common i a) (common j b);
        }

    step_later : (t : ℕ) (s v : State) → settling p ≤ t → Step p D t s v ↔ Step p D (t + q) s v
    step_later t s v h =
        let a : Alike p D t (t + q) = alike_later t h in
        (step_alike t (t + q) a s v, step_alike (t + q) t (alike_back t (t + q) a) s v)

    pub leads_earlier : (n t : ℕ) (s v : State) → settling p ≤ t → Leads p D n (t + q) s v → Leads p D n t s v
    leads_earlier zero t s v h x = x
    leads_earlier (suc n) t s v h (u, l, step) =
        let e : t + q + n ≡ t + n + q = omega arith in
        (u, leads_earlier n t s u h l, (step_later (t + n) u v (omega arith)).1 (subst (λ (y : ℕ). Step p D y u v) e step))

pub units_repeat : UnitsRepeat
units_repeat p D ok law t s v h = step_later p D law (round p) (period_divides p ok) t s v h
