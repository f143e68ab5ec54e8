-- Where a state here and a trace there agree on the time left, they agree on who is enabled and who is selected.
use Rattle.std.proofs.Common.{◌≡◌, ℕ, ◌+◌, ◌<◌, ◌≤◌, true, ◌≢◌, ◌⊎◌, ◌↔◌, length, Some, None, Option, sym, refl, ap, ◌∙◌, subst, subst₂, inl, inr, arith}
use native.Mathlib.Decide.{ℕ_discrete}
use Rattle.std.proofs.lemmas.Bool.{cases_lt}
use Rattle.policy.specs.Laws.{Choice, IsLawfulChoice}
use Rattle.plan.specs.Contents.{Contents, Sound, count, at}
use Rattle.model.specs.Units.{State, left, Ready, GoesBefore, Running}
use Rattle.model.proofs.Asking.{before_not_both}
use Rattle.literature.specs.Systems.{Trace, Current, nth_period, executed, Finished, Enabled, Priority, Selected}
use Rattle.literature.proofs.Periods.{Phase, phase_exists, current_phase, phase_current}

-- the priorities are the discipline's choices, wherever they are asked for
abbrev pub Agrees : Contents → Choice → Priority → Type 0
Agrees p D Above =
    (t a b : ℕ) → a < count p → b < count p → a ≢ b → (at p a).core ≡ (at p b).core → Above t a b ↔ GoesBefore p D t a b

-- time left is the time needed less what was executed in the current period
abbrev pub Meets : Contents → Trace → (ℕ → ℕ) → State → Type 0
Meets p h needs u = (τ n : ℕ) → τ < count p → Current p h τ n → left u τ + executed p (nth_period p h τ n) τ ≡ needs τ

-- a handler that is joined before another has its periods
current_joined : (p : Contents) → Sound p → (h : Trace) (a b n : ℕ) → p.joined a b ≡ true → Current p h b n → Current p h a n
current_joined p ok h a b n j c =
    phase_current p h a n
    (subst₂ (λ (o q : ℕ). Phase o q (length h) n) (sym (ok.offsets a b j)) (sym (ok.periods a b j)) (current_phase p h b n c))

-- no two handlers run on one core
running_one : (p : Contents) (D : Choice) → IsLawfulChoice D → (t : ℕ) (u : State) (x y : ℕ) → x < count p → y < count p → (at p x).core ≡ (at p y).core
    → Running p D t u x → Running p D t u y → x ≡ y
running_one p D law t u x y lx ly e r s = go (ℕ_discrete x y)
  where
    go : Dec (x ≡ y) → x ≡ y
    go (yes q) = q
    go (no n) =
        absurd (before_not_both p D law t y x n e (s.first x lx n e r.ready) (r.first y ly (λ z. n (sym z)) (sym e) s.ready))

module _ (p : Contents) (ok : Sound p) (h : Trace) (needs : ℕ → ℕ) (u : State)
    (early : (τ : ℕ) → τ < count p → length h < (at p τ).offset → needs τ ≡ 0) (meets : Meets p h needs u) where
  pub finished_left : (τ n : ℕ) → τ < count p → Current p h τ n → Finished p h needs τ n ↔ left u τ ≡ 0
  finished_left τ n l c = let e = meets τ n l c in (λ f. omega arith, λ f. omega arith)

  pub enabled_ready : (τ : ℕ) → τ < count p → Enabled p h needs τ → Ready p u τ
  enabled_ready τ l e =
      record {
        working = some (cases_lt 0 (left u τ));
        waits = λ a j. (finished_left a e.period (ok.inside a τ j).0 (current_joined p ok h a τ e.period j e.current)).0 (e.depends a j);
      }
    where
      some : (0 < left u τ) ⊎ (left u τ ≤ 0) → 0 < left u τ
      some (inl g) = g
      some (inr g) = absurd (e.unfinished ((finished_left τ e.period l e.current).1 (omega arith)))

  ready_enabled : (τ : ℕ) → τ < count p → Ready p u τ → Enabled p h needs τ
  ready_enabled τ l r = go (phase_exists (at p τ).offset (at p τ).period (length h) (ok.ranges τ l).0)
    where
      go : ((n : ℕ) × Phase (at p τ).offset (at p τ).period (length h) n) → Enabled p h needs τ
      go (n, f) =
          let c : Current p h τ n = phase_current p h τ n f in
          let e = meets τ n l c in
          let w = r.working in
          record {
            period = n;
            current = c;
            begun = begun f;
            needy = omega arith;
            unfinished = λ x. absurd (omega (arith, (finished_left τ n l c).0 x));
            depends = λ x j. (finished_left x n (ok.inside x τ j).0 (current_joined p ok h x τ n j c)).1 (r.waits x j);
          }
        where
          begun : Phase (at p τ).offset (at p τ).period (length h) n → 0 < n
          begun (inl a) = absurd (omega (arith, early τ l a.0, meets τ n l (phase_current p h τ n (inl a)), r.working))
          begun (inr (k, e, w)) = omega arith

  module _ (D : Choice) (Above : Priority) (law : IsLawfulChoice D) (agrees : Agrees p D Above) (t : ℕ) (long : length h ≡ t) where
    selected_running : (pe τ : ℕ) → Selected p Above h needs pe (Some τ) → Running p D t u τ
    selected_running pe τ (l, e, on, top) =
        record {
          ready = enabled_ready τ l on;
          first = λ j g n k r.
              subst (λ (x : ℕ). GoesBefore p D x τ j) long
              ((agrees (length h) τ j l g (λ z. n (sym z)) (sym k)).0 (top j g n (k ∙ e) (ready_enabled j g r)));
        }

    pub running_selected : (pe τ : ℕ) → τ < count p → (at p τ).core ≡ pe → Running p D t u τ → Selected p Above h needs pe (Some τ)
    running_selected pe τ l e r = (
      l,
      e,
      ready_enabled τ l r.ready,
      λ x g n k on.
          (agrees (length h) τ x l g (λ z. n (sym z)) (e ∙ sym k)).1
          (subst (λ (y : ℕ). GoesBefore p D y τ x) (sym long) (r.first x g n (k ∙ sym e) (enabled_ready x g on))),
    )

    pub selected_runs : (pe : ℕ) (c : Option ℕ) → Selected p Above h needs pe c → (τ : ℕ) → τ < count p → (at p τ).core ≡ pe
        → c ≡ Some τ ↔ Running p D t u τ
    selected_runs pe c s τ l e = (λ q. selected_running pe τ (subst (Selected p Above h needs pe) q s), back c s)
      where
        back : (c : Option ℕ) → Selected p Above h needs pe c → Running p D t u τ → c ≡ Some τ
        back None s r = absurd (s τ l e (ready_enabled τ l r.ready))
        back (Some x) s r = ap Some (running_one p D law t u x τ s.0 l (s.1 ∙ sym e) (selected_running pe x s) r)

    pub selected_idles : (pe : ℕ) (c : Option ℕ) → Selected p Above h needs pe c
        → c ≡ None ↔ ((τ : ℕ) → τ < count p → (at p τ).core ≡ pe → ¬ Running p D t u τ)
    selected_idles pe c s = (λ q τ l e r. subst (Selected p Above h needs pe) q s τ l e (ready_enabled τ l r.ready), back c s)
      where
        back : (c : Option ℕ) → Selected p Above h needs pe c → ((τ : ℕ) → τ < count p → (at p τ).core ≡ pe → ¬ Running p D t u τ) → c ≡ None
        back None s f = refl
        back (Some x) s f = absurd (f x s.0 s.1 (selected_running pe x s))
