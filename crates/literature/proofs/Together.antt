-- A run here and a run there that start alike and give the same times go together for ever.
use Rattle.std.proofs.Common.{◌≡◌, ℕ, zero, suc, ◌+◌, ◌-◌, ◌*◌, ◌<◌, ◌≤◌, ◌⊎◌, ◌↔◌, length, Some, sym, refl, ap, ◌∙◌, subst, inl, inr, arith}
use Prim.Native.Nat.{◌∣◌}
use native.Mathlib.Nat.{dvd-zero}
use lib.ListN.{get_or-replicate}
use Rattle.std.proofs.lemmas.Bool.{cases_lt}
use Rattle.policy.specs.Laws.{Choice, IsLawfulChoice}
use Rattle.plan.specs.Contents.{Contents, Sound, count, at}
use Rattle.model.specs.Units.{State, left, zeros, Starts, Started, Running, Served}
use Rattle.model.proofs.Deciding.{starts_decided, running_decided}
use Rattle.literature.specs.Systems.{SystemState, Current, Possible, Priority, Next, prefix}
use Rattle.literature.specs.Agreement.{Correspond}
use Rattle.literature.proofs.Periods.{Within, Phase, begins, goes_on, current_phase, phase_current}
use Rattle.literature.proofs.Executions.{prefix_long, last_is, spent, spent_early, spent_fresh, spent_more, executes_one, executes_none}
use Rattle.literature.proofs.Meeting.{Agrees, Meets, finished_left, selected_runs, selected_idles}

-- who is released at time 0 starts then
pub starts_first : (p : Contents) (τ : ℕ) → (at p τ).offset ≤ 0 → Starts p 0 τ
starts_first p τ h =
    let e : 0 ≡ 0 - (at p τ).offset = omega arith in
    (h, subst (λ (x : ℕ). (at p τ).period ∣ x) e (dvd-zero (at p τ).period))

-- what goes by the length of the first t states goes by t
pub starts_length : (p : Contents) (ρ : ℕ → SystemState) (t τ : ℕ) → Starts p (length (prefix ρ t)) τ ↔ Starts p t τ
starts_length p ρ t τ = (subst (λ (m : ℕ). Starts p m τ) (prefix_long ρ t), subst (λ (m : ℕ). Starts p m τ) (sym (prefix_long ρ t)))

module _ (p : Contents) (ρ : ℕ → SystemState) (t τ n : ℕ) where
  phase_at : Current p (prefix ρ t) τ n → Phase (at p τ).offset (at p τ).period t n
  phase_at c = subst (λ (m : ℕ). Phase (at p τ).offset (at p τ).period m n) (prefix_long ρ t) (current_phase p (prefix ρ t) τ n c)

  pub current_at : Phase (at p τ).offset (at p τ).period t n → Current p (prefix ρ t) τ n
  current_at f = phase_current p (prefix ρ t) τ n (subst (λ (m : ℕ). Phase (at p τ).offset (at p τ).period m n) (sym (prefix_long ρ t)) f)

-- what a possible next state executes is what runs
pub next_runs : (p : Contents) (D : Choice) (Above : Priority) → Sound p → IsLawfulChoice D → Agrees p D Above
    → (ρ : ℕ → SystemState) (t : ℕ) (u : State) → Next p Above (prefix ρ t) (ρ t) → Meets p (prefix ρ t) (ρ t).needs u
    → (τ : ℕ) → τ < count p → (ρ t).executes (at p τ).core ≡ Some τ ↔ Running p D t u τ
next_runs p D Above ok law agrees ρ t u next m τ l =
    let r = ok.ranges τ l in
    selected_runs p ok (prefix ρ t) (ρ t).needs u next.vector.early m D Above law agrees t (prefix_long ρ t)
    (at p τ).core ((ρ t).executes (at p τ).core) (next.selects (at p τ).core r.3 r.4) τ l refl

module _ (p : Contents) (D : Choice) (Above : Priority) (ok : Sound p) (law : IsLawfulChoice D) (agrees : Agrees p D Above)
    (run begun : ℕ → State) (ρ : ℕ → SystemState) (zero_left : run 0 ≡ zeros p)
    (started : (t : ℕ) → Started p t (run t) (begun t))
    (possible : (t : ℕ) → Possible p (prefix ρ t) (ρ t).needs)
    (fresh : (t τ : ℕ) → τ < count p → Starts p t τ → left (begun t) τ ≡ (ρ t).needs τ)
    (unit : (t : ℕ) → Meets p (prefix ρ t) (ρ t).needs (begun t) → Next p Above (prefix ρ t) (ρ t) × Served p D t (begun t) (run (suc t))) where
  abbrev Here : ℕ → Type 0
  Here t = Meets p (prefix ρ t) (ρ t).needs (begun t)

  early : (t τ : ℕ) → τ < count p → t < (at p τ).offset → (ρ t).needs τ ≡ 0
  early t τ l h = (possible t).early τ l (omega (arith, prefix_long ρ t))

  kept : (t τ : ℕ) → τ < count p → (at p τ).offset ≤ suc t → ¬ Starts p (suc t) τ → (ρ (suc t)).needs τ ≡ (ρ t).needs τ
  kept t τ l h n =
      let g : (at p τ).offset ≤ length (prefix ρ (suc t)) = omega (arith, prefix_long ρ (suc t)) in
      (possible (suc t)).kept τ l g (λ d. n ((starts_length p ρ (suc t) τ).0 (g, d))) ∙ last_is ρ t τ

  runs : (t : ℕ) → Here t → (τ : ℕ) → τ < count p → (ρ t).executes (at p τ).core ≡ Some τ ↔ Running p D t (begun t) τ
  runs t m = next_runs p D Above ok law agrees ρ t (begun t) (unit t m).0 m

  after : (t : ℕ) → Here t → (τ n : ℕ) → τ < count p → Current p (prefix ρ t) τ n
      → left (run (suc t)) τ + spent p ρ (suc t) τ n ≡ (ρ t).needs τ
  after t m τ n l c = go (phase_at p ρ t τ n c) (running_decided p D ok t (begun t) τ l)
    where
      now : left (begun t) τ + spent p ρ t τ n ≡ (ρ t).needs τ
      now = m τ n l c

      go : Phase (at p τ).offset (at p τ).period t n → Dec (Running p D t (begun t) τ) → left (run (suc t)) τ + spent p ρ (suc t) τ n ≡ (ρ t).needs τ
      go (inl (h, e)) (yes r) = absurd (omega (arith, now, early t τ l h, r.ready.working))
      go (inl (h, e)) (no x) =
          let still = (unit t m).1.waited τ l x in
          omega (arith, now, early t τ l h, spent_early p ρ τ (suc t) n e h)
      go (inr (k, e, w)) (yes r) =
          omega (arith, now, spent_more p ρ τ t n k e w, (unit t m).1.ran τ l r, executes_one ((ρ t).executes (at p τ).core) τ ((runs t m τ l).1 r))
      go (inr (k, e, w)) (no x) =
          omega (arith, now, spent_more p ρ τ t n k e w, (unit t m).1.waited τ l x, executes_none ((ρ t).executes (at p τ).core) τ (λ q. x ((runs t m τ l).0 q)))

  here : (t : ℕ) → Here t
  here zero τ n l c = go (starts_decided p 0 τ) (cases_lt 0 (at p τ).offset)
    where
      none : Phase (at p τ).offset (at p τ).period 0 n → spent p ρ 0 τ n ≡ 0
      none (inl (h, e)) = spent_early p ρ τ 0 n e (omega arith)
      none (inr (k, e, w)) = spent_fresh p ρ τ 0 n k e (omega arith)

      go : Dec (Starts p 0 τ) → (0 < (at p τ).offset) ⊎ ((at p τ).offset ≤ 0) → left (begun 0) τ + spent p ρ 0 τ n ≡ (ρ 0).needs τ
      go (yes s) b = omega (arith, fresh 0 τ l s, none (phase_at p ρ 0 τ n c))
      go (no x) (inl h) =
          let zeroes : left (run 0) τ ≡ 0 = ap (λ (s : State). left s τ) zero_left ∙ get_or-replicate (count p) τ 0 0 l in
          omega (arith, (started 0).same τ l x, early 0 τ l h, none (phase_at p ρ 0 τ n c))
      go (no x) (inr h) = absurd (x (starts_first p τ h))
  here (suc t) τ n l c = go (phase_at p ρ (suc t) τ n c) (starts_decided p (suc t) τ) (after t (here t) τ n l)
    where
      go : Phase (at p τ).offset (at p τ).period (suc t) n → Dec (Starts p (suc t) τ)
          → (Current p (prefix ρ t) τ n → left (run (suc t)) τ + spent p ρ (suc t) τ n ≡ (ρ t).needs τ)
          → left (begun (suc t)) τ + spent p ρ (suc t) τ n ≡ (ρ (suc t)).needs τ
      go (inl (h, e)) (yes s) past = absurd (omega (arith, s.0))
      go (inl (h, e)) (no x) past =
          omega (arith, (started (suc t)).same τ l x, early (suc t) τ l h, early t τ l (omega arith), past (current_at p ρ t τ n (inl (omega arith, e))))
      go (inr (k, e, w)) (yes s) past =
          let b : suc t ≡ (at p τ).offset + k * (at p τ).period = begins (at p τ).offset (at p τ).period (suc t) k w s.0 s.1 in
          omega (arith, fresh (suc t) τ l s, spent_fresh p ρ τ (suc t) n k e (omega arith))
      go (inr (k, e, w)) (no x) past =
          let from = w.from in
          let h : (at p τ).offset ≤ suc t = omega arith in
          let v : Within (at p τ).offset (at p τ).period t k = goes_on (at p τ).offset (at p τ).period t k w (λ d. x (h, d)) in
          omega (arith, (started (suc t)).same τ l x, kept t τ l h x, past (current_at p ρ t τ n (inr (k, e, v))))

  pub possible_next : (t : ℕ) → Next p Above (prefix ρ t) (ρ t)
  possible_next t = (unit t (here t)).0

  pub serves : (t : ℕ) → Served p D t (begun t) (run (suc t))
  serves t = (unit t (here t)).1

  pub corresponds : (t : ℕ) → Correspond p D run ρ t
  corresponds t =
      record {
        begun = begun t;
        started = started t;
        served = serves t;
        runs = runs t (here t);
        idles = λ pe a b.
            selected_idles p ok (prefix ρ t) (ρ t).needs (begun t) (possible t).early (here t) D Above law agrees t (prefix_long ρ t)
            pe ((ρ t).executes pe) ((possible_next t).selects pe a b);
        rests = here t;
        finished = finished_left p ok (prefix ρ t) (ρ t).needs (begun t) (possible t).early (here t);
        after = after t (here t);
      }
