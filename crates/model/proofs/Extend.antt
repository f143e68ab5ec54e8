-- Each beginning of a run goes on for ever.
use Rattle.std.proofs.Common.{◌≡◌, ℕ, zero, suc, pred, ◌+◌, ◌-◌, ◌<◌, ◌≤◌, sym, refl, ap, ◌∙◌, subst, subst₂, zero-add, arith, ext_get_or}
use mathlib.Core.Logic.{ite, if_pos, if_neg}
use native.Mathlib.Decide.{dec_le, dec_lt, ℕ_discrete}
use Rattle.policy.specs.Laws.{Choice}
use Rattle.plan.specs.Contents.{Contents, Sound, count, at}
use Rattle.model.specs.Units.{State, left, zeros, Started, Running, Served, Step}
use Rattle.model.specs.Runs.{Run, StateAt}
use Rattle.model.specs.Theorems.{BeginningsGoOn}
use Rattle.model.proofs.Deciding.{starts_decided, running_decided}
use Rattle.model.proofs.Made.{made, made_long, made_left}

module _ (p : Contents) (D : Choice) (ok : Sound p) where
  least_left : ℕ → State → ℕ → ℕ
  least_left t s i = ite (starts_decided p t i) (at p i).shortest (left s i)

  -- everyone who starts takes the shortest time
  begun : ℕ → State → State
  begun t s = made (count p) (least_left t s)

  begun_ok : (t : ℕ) (s : State) → Started p t s (begun t s)
  unfolding begun least_left
  begun_ok t s =
      record {
        long = made_long (count p) (least_left t s);
        fresh = λ i h st.
            let e : left (begun t s) i ≡ (at p i).shortest =
            made_left (count p) (least_left t s) i h ∙ if_pos (starts_decided p t i) st (at p i).shortest (left s i) in
            let w : (at p i).shortest ≤ (at p i).longest = (ok.ranges i h).2 in
            (omega arith, omega arith);
        same = λ i h st. made_left (count p) (least_left t s) i h ∙ if_neg (starts_decided p t i) st (at p i).shortest (left s i);
      }

  runs_inside : (t : ℕ) (u : State) (i : ℕ) → Dec ((i < count p) × Running p D t u i)
  runs_inside t u i = go (dec_lt i (count p))
    where
      go : Dec (i < count p) → Dec ((i < count p) × Running p D t u i)
      go (no n) = no (λ r. n r.0)
      go (yes h) = within (running_decided p D ok t u i h)
        where
          within : Dec (Running p D t u i) → Dec ((i < count p) × Running p D t u i)
          within (yes r) = yes (h, r)
          within (no n) = no (λ r. n r.1)

  rest : ℕ → State → ℕ → ℕ
  rest t u i = ite (runs_inside t u i) (pred (left u i)) (left u i)

  -- the one state that a started one is served to
  pub finish : ℕ → State → State
  finish t u = made (count p) (rest t u)

  pub finish_ok : (t : ℕ) (u : State) → Served p D t u (finish t u)
  unfolding finish rest
  finish_ok t u =
      record {
        long = made_long (count p) (rest t u);
        ran = λ i h r.
            let e : left (finish t u) i ≡ pred (left u i) =
            made_left (count p) (rest t u) i h ∙ if_pos (runs_inside t u i) (h, r) (pred (left u i)) (left u i) in
            let w : 0 < left u i = r.ready.working in
            omega arith;
        waited = λ i h n. made_left (count p) (rest t u) i h ∙ if_neg (runs_inside t u i) (λ r. n r.1) (pred (left u i)) (left u i);
      }

  pub finish_only : (t : ℕ) (u v : State) → Served p D t u v → v ≡ finish t u
  finish_only t u v sv =
      ext_get_or 0 v (finish t u) (sv.long ∙ sym (finish_ok t u).long)
      (λ i l. let h : i < count p = subst (λ (n : ℕ). i < n) sv.long l in here i h (running_decided p D ok t u i h))
    where
      here : (i : ℕ) → i < count p → Dec (Running p D t u i) → left v i ≡ left (finish t u) i
      here i h (yes r) =
          let a : left u i ≡ suc (left v i) = sv.ran i h r in
          let b : left u i ≡ suc (left (finish t u) i) = (finish_ok t u).ran i h r in
          omega arith
      here i h (no n) = sv.waited i h n ∙ sym ((finish_ok t u).waited i h n)

  -- one way to go on
  next : ℕ → State → State
  next t s = finish t (begun t s)

  next_ok : (t : ℕ) (s : State) → Step p D t s (next t s)
  unfolding next
  next_ok t s = (begun t s, begun_ok t s, finish_ok t (begun t s))

  -- the state k units after t
  onward : ℕ → State → ℕ → State
  onward t s zero = s
  onward t s (suc k) = next (t + k) (onward t s k)

  -- a run up to t, and then on from s
  spliced : (ℕ → State) → ℕ → State → ℕ → State
  spliced run t s k = ite (dec_le k t) (run k) (onward (suc t) s (k - suc t))

  early : (run : ℕ → State) (t : ℕ) (s : State) (k : ℕ) → k ≤ t → spliced run t s k ≡ run k
  unfolding spliced
  early run t s k h = if_pos (dec_le k t) h (run k) (onward (suc t) s (k - suc t))

  past : (run : ℕ → State) (t : ℕ) (s : State) (k j : ℕ) → k ≡ suc t + j → spliced run t s k ≡ onward (suc t) s j
  unfolding spliced
  past run t s k j e =
      let n : ¬ (k ≤ t) = omega arith in
      let d : k - suc t ≡ j = omega arith in
      if_neg (dec_le k t) n (run k) (onward (suc t) s (k - suc t)) ∙ ap (onward (suc t) s) d

  spliced_run : (run : ℕ → State) → Run p D run → (t : ℕ) (s : State) → Step p D t (run t) s → Run p D (spliced run t s)
  unfolding onward
  spliced_run run r t s step = record { begins = early run t s 0 (omega arith) ∙ r.begins; goes = λ k. go k (dec_lt k t) (ℕ_discrete k t) }
    where
      Goes : ℕ → Type 0
      Goes k = Step p D k (spliced run t s k) (spliced run t s (suc k))

      go : (k : ℕ) → Dec (k < t) → Dec (k ≡ t) → Goes k
      go k (yes h) e = subst₂ (Step p D k) (sym (early run t s k (omega arith))) (sym (early run t s (suc k) (omega arith))) (r.goes k)
      go k (no h) (yes e) =
          subst Goes (sym e)
          (subst₂ (Step p D t) (sym (early run t s t (omega arith))) (sym (past run t s (suc t) 0 (omega arith))) step)
      go k (no h) (no e) =
          let j : ℕ = k - suc t in
          let at_k : k ≡ suc t + j = omega arith in
          let here : Step p D k (onward (suc t) s j) (onward (suc t) s (suc j)) =
          subst (λ (x : ℕ). Step p D x (onward (suc t) s j) (next (suc t + j) (onward (suc t) s j))) (sym at_k)
          (next_ok (suc t + j) (onward (suc t) s j)) in
          subst₂ (Step p D k) (sym (past run t s k j at_k)) (sym (past run t s (suc k) (suc j) (omega arith))) here

  -- there is a run
  pub some_run : (run : ℕ → State) × Run p D run
  unfolding onward
  some_run = (
    onward 0 (zeros p),
    record {
      begins = refl;
      goes = λ t. subst (λ (k : ℕ). Step p D k (onward 0 (zeros p) t) (next (0 + t) (onward 0 (zeros p) t))) (zero-add t)
          (next_ok (0 + t) (onward 0 (zeros p) t));
    },
  )

  pub state_after : (t : ℕ) (s v : State) → StateAt p D t s → Step p D t s v → StateAt p D (suc t) v
  unfolding onward
  state_after t s v (run, r, e) step = (
    spliced run t v,
    spliced_run run r t v (subst (λ (x : State). Step p D t x v) (sym e) step),
    past run t v (suc t) 0 (omega arith),
  )

pub beginnings_go_on : BeginningsGoOn
beginnings_go_on p D ok t v = (
  λ a. (a.0 t, (a.0, a.1, refl), subst (λ (x : State). Step p D t (a.0 t) x) a.2 (a.1.goes t)),
  λ b. state_after p D ok t b.0 v b.1 b.2,
)
