-- A run here as a run there.
use Rattle.std.proofs.Common.{◌≡◌, ℕ, zero, suc, ◌<◌, ◌≤◌, ◌⊎◌, Some, None, Option, sym, ◌∙◌, inl, inr, arith}
use mathlib.Core.Logic.{ite, if_pos, if_neg}
use native.Mathlib.Decide.{dec_lt, ℕ_discrete}
use Rattle.policy.specs.Laws.{Choice, IsLawfulChoice}
use Rattle.plan.specs.Contents.{Contents, Sound, count, at}
use Rattle.model.specs.Units.{State, left, Starts, Running, Served}
use Rattle.model.specs.Runs.{Run}
use Rattle.model.proofs.Deciding.{least, starts_decided, running_decided}
use Rattle.model.proofs.One.{one_runs}
use Rattle.literature.specs.Systems.{SystemState, last_needs, Possible, Priority, Selected, Next, SystemRun, prefix}
use Rattle.literature.specs.Agreement.{Correspond}
use Rattle.literature.proofs.Executions.{prefix_long, last_is}
use Rattle.literature.proofs.Meeting.{Agrees, Meets, enabled_ready, running_selected}
use Rattle.literature.proofs.Together.{starts_first, starts_length, possible_next, corresponds}

-- the core serves the handler at the place i
abbrev ServedOn : Contents → Choice → ℕ → State → ℕ → ℕ → Type 0
ServedOn p D t u pe i = (i < count p) × ((at p i).core ≡ pe) × Running p D t u i

-- nobody, or the first whom it serves
abbrev Search : Contents → Choice → ℕ → State → ℕ → Type 0
Search p D t u pe =
    ((i : ℕ) → i < count p → ¬ ServedOn p D t u pe i) ⊎ ((i : ℕ) × ServedOn p D t u pe i × ((j : ℕ) → j < i → ¬ ServedOn p D t u pe j))

abbrev found : (p : Contents) (D : Choice) (t : ℕ) (u : State) (pe : ℕ) → Search p D t u pe → Option ℕ
found p D t u pe (inl none) = None
found p D t u pe (inr (i, on, first)) = Some i

search_for : (p : Contents) (D : Choice) → Sound p → (t : ℕ) (u : State) (pe : ℕ) → Search p D t u pe
search_for p D ok t u pe = least (ServedOn p D t u pe) (λ i. go i (dec_lt i (count p))) (count p)
  where
    both : (i : ℕ) → i < count p → Dec ((at p i).core ≡ pe) → Dec (Running p D t u i) → Dec (ServedOn p D t u pe i)
    both i l (yes e) (yes r) = yes (l, e, r)
    both i l (yes e) (no r) = no (λ x. r x.2)
    both i l (no e) r = no (λ x. e x.1)

    go : (i : ℕ) → Dec (i < count p) → Dec (ServedOn p D t u pe i)
    go i (yes l) = both i l (ℕ_discrete (at p i).core pe) (running_decided p D ok t u i l)
    go i (no l) = no (λ x. l x.0)

module _ (p : Contents) (D : Choice) (ok : Sound p) (run : ℕ → State) (r : Run p D run) where
  -- the state after the starts at t
  abbrev begun : ℕ → State
  begun t = (r.goes t).0

  -- the time chosen where a period begins, kept until the next begins
  abbrev needs : ℕ → ℕ → ℕ
  needs zero τ = ite (starts_decided p 0 τ) (left (begun 0) τ) 0
  needs (suc t) τ = ite (starts_decided p (suc t) τ) (left (begun (suc t)) τ) (needs t τ)

  abbrev states : ℕ → SystemState
  states t = record { executes = λ pe. found p D t (begun t) pe (search_for p D ok t (begun t) pe); needs = needs t }

  needs_fresh : (t τ : ℕ) → Starts p t τ → needs t τ ≡ left (begun t) τ
  needs_fresh zero τ s = if_pos (starts_decided p 0 τ) s (left (begun 0) τ) 0
  needs_fresh (suc t) τ s = if_pos (starts_decided p (suc t) τ) s (left (begun (suc t)) τ) (needs t τ)

  needs_kept : (t τ : ℕ) → ¬ Starts p (suc t) τ → needs (suc t) τ ≡ needs t τ
  needs_kept t τ n = if_neg (starts_decided p (suc t) τ) n (left (begun (suc t)) τ) (needs t τ)

  needs_early : (t τ : ℕ) → t < (at p τ).offset → needs t τ ≡ 0
  needs_early zero τ h = if_neg (starts_decided p 0 τ) (λ s. absurd (omega (arith, s.0))) (left (begun 0) τ) 0
  needs_early (suc t) τ h = needs_kept t τ (λ s. absurd (omega (arith, s.0))) ∙ needs_early t τ (omega arith)

  needs_last : (t τ : ℕ) → ¬ Starts p t τ → (at p τ).offset ≤ t → needs t τ ≡ last_needs (prefix states t) τ
  needs_last zero τ n h = absurd (n (starts_first p τ h))
  needs_last (suc t) τ n h = needs_kept t τ n ∙ sym (last_is states t τ)

  possible : (t : ℕ) → Possible p (prefix states t) (needs t)
  possible t =
      record {
        early = λ τ l h. needs_early t τ (omega (arith, prefix_long states t));
        chosen = λ τ l h d.
            let s : Starts p t τ = (starts_length p states t τ).0 (h, d) in
            omega (arith, needs_fresh t τ s, (r.goes t).1.fresh τ l s);
        kept = λ τ l h n. needs_last t τ (λ s. n ((starts_length p states t τ).1 s).1) (omega (arith, prefix_long states t));
      }

  module _ (Above : Priority) (law : IsLawfulChoice D) (agrees : Agrees p D Above) where
    unit : (t : ℕ) → Meets p (prefix states t) (needs t) (begun t)
        → Next p Above (prefix states t) (states t) × Served p D t (begun t) (run (suc t))
    unit t m = (record { vector = possible t; selects = λ pe a b. selects pe (search_for p D ok t (begun t) pe) }, (r.goes t).2)
      where
        selects : (pe : ℕ) (s : Search p D t (begun t) pe) → Selected p Above (prefix states t) (needs t) pe (found p D t (begun t) pe s)
        selects pe (inl none) = λ τ l e on.
            let x = one_runs p D ok law t (begun t) τ l (enabled_ready p ok (prefix states t) (needs t) (begun t) (possible t).early m τ l on) in
            none x.0 x.1 (x.1, x.2 ∙ e, x.3)
        selects pe (inr (i, (l, e, on), first)) =
            running_selected p ok (prefix states t) (needs t) (begun t) (possible t).early m D Above law agrees t (prefix_long states t) pe i l e on

    pub there : (ρ : ℕ → SystemState) × SystemRun p Above ρ × ((t : ℕ) → Correspond p D run ρ t)
    there =
        let fresh : (t τ : ℕ) → τ < count p → Starts p t τ → left (begun t) τ ≡ (states t).needs τ = λ t τ l s. sym (needs_fresh t τ s) in (
          states,
          possible_next p D Above ok law agrees run begun states r.begins (λ t. (r.goes t).1) possible fresh unit,
          corresponds p D Above ok law agrees run begun states r.begins (λ t. (r.goes t).1) possible fresh unit,
        )
