-- A run there as a run here.
use Rattle.std.proofs.Common.{◌≡◌, ℕ, zero, suc, ◌-◌, ◌<◌, ◌↔◌, Some, refl, ◌∙◌, arith}
use mathlib.Core.Logic.{ite, if_pos, if_neg}
use Rattle.policy.specs.Laws.{Choice, IsLawfulChoice}
use Rattle.plan.specs.Contents.{Contents, Sound, count, at}
use Rattle.model.specs.Units.{State, left, zeros, Starts, Started, Running, Served}
use Rattle.model.specs.Runs.{Run}
use Rattle.model.proofs.Deciding.{starts_decided}
use Rattle.model.proofs.Made.{made, made_long, made_left}
use Rattle.literature.specs.Systems.{SystemState, executed_by, Priority, Next, SystemRun, prefix}
use Rattle.literature.specs.Agreement.{Correspond}
use Rattle.literature.proofs.Executions.{executes_one, executes_none}
use Rattle.literature.proofs.Meeting.{Agrees, Meets}
use Rattle.literature.proofs.Together.{starts_length, next_runs, serves, corresponds}

module _ (p : Contents) (ρ : ℕ → SystemState) where
  -- the time left after the starts at t
  abbrev fresh : ℕ → State → ℕ → ℕ
  fresh t s τ = ite (starts_decided p t τ) ((ρ t).needs τ) (left s τ)

  -- the time left after the unit at t
  abbrev rest : ℕ → State → ℕ → ℕ
  rest t u τ = left u τ - executed_by ((ρ t).executes (at p τ).core) τ

  abbrev states : ℕ → State
  states zero = zeros p
  states (suc t) = made (count p) (rest t (made (count p) (fresh t (states t))))

  abbrev begun : ℕ → State
  begun t = made (count p) (fresh t (states t))

  begun_fresh : (t τ : ℕ) → τ < count p → Starts p t τ → left (begun t) τ ≡ (ρ t).needs τ
  begun_fresh t τ l s = made_left (count p) (fresh t (states t)) τ l ∙ if_pos (starts_decided p t τ) s ((ρ t).needs τ) (left (states t) τ)

  module _ (D : Choice) (ok : Sound p) (Above : Priority) (law : IsLawfulChoice D) (agrees : Agrees p D Above) (r : SystemRun p Above ρ) where
    started : (t : ℕ) → Started p t (states t) (begun t)
    started t =
        record {
          long = made_long (count p) (fresh t (states t));
          fresh = λ τ l s.
              let g = (starts_length p ρ t τ).1 s in
              let in-range = (r t).vector.chosen τ l g.0 g.1 in
              omega (arith, begun_fresh t τ l s);
          same = λ τ l n. made_left (count p) (fresh t (states t)) τ l ∙ if_neg (starts_decided p t τ) n ((ρ t).needs τ) (left (states t) τ);
        }

    unit : (t : ℕ) → Meets p (prefix ρ t) (ρ t).needs (begun t) → Next p Above (prefix ρ t) (ρ t) × Served p D t (begun t) (states (suc t))
    unit t m = (
      r t,
      record {
        long = made_long (count p) (rest t (begun t));
        ran = λ τ l on.
            omega (arith, on.ready.working, made_left (count p) (rest t (begun t)) τ l, executes_one ((ρ t).executes (at p τ).core) τ ((runs τ l).1 on));
        waited = λ τ l off.
            omega (arith, made_left (count p) (rest t (begun t)) τ l, executes_none ((ρ t).executes (at p τ).core) τ (λ e. off ((runs τ l).0 e)));
      },
    )
      where
        runs : (τ : ℕ) → τ < count p → (ρ t).executes (at p τ).core ≡ Some τ ↔ Running p D t (begun t) τ
        runs = next_runs p D Above ok law agrees ρ t (begun t) (r t) m

    pub back : (run : ℕ → State) × Run p D run × ((t : ℕ) → Correspond p D run ρ t)
    back = (
      states,
      record {
        begins = refl;
        goes = λ t. (begun t, started t, serves p D Above ok law agrees states begun ρ refl started (λ t. (r t).vector) begun_fresh unit t);
      },
      corresponds p D Above ok law agrees states begun ρ refl started (λ t. (r t).vector) begun_fresh unit,
    )
