-- The article's model and ours are one: the same runs, and the same plans are found good.
use Rattle.std.specs.Prelude.{◌≡◌, ℕ, suc, ◌+◌, ◌<◌, ◌≤◌, ◌↔◌, List, [], Some, None}
use Rattle.policy.specs.Laws.{Choice, IsLawfulChoice}
use Rattle.policy.specs.declared.codes.Code.{Code}
use Rattle.policy.specs.Codes.{coded}
use Rattle.plan.specs.Contents.{Contents, Sound, count, at}
use Rattle.model.specs.Units.{State, left, Started, GoesBefore, Running, Served}
use Rattle.model.specs.Runs.{Run, NeverLate}
use Rattle.literature.specs.Systems.{SystemState, Priority, Current, nth_period, executed, last_needs, Finished, prefix, SystemRun, Schedulable}
use Rattle.literature.specs.Priorities.{by_principles}

-- the unit at t of a run here and of a run there: the same handlers run, time left is the time chosen less what was executed in the current period, and finished is time left 0
pub record Correspond (p : Contents) (D : Choice) (run : ℕ → State) (ρ : ℕ → SystemState) (t : ℕ) : Type 0 where
  -- the state after the starts at t
  pub begun : State
  pub started : Started p t (run t) begun
  pub served : Served p D t begun (run (suc t))
  pub runs : (τ : ℕ) → τ < count p → (ρ t).executes (at p τ).core ≡ Some τ ↔ Running p D t begun τ
  pub idles : (pe : ℕ) → 1 ≤ pe → pe ≤ 8 → (ρ t).executes pe ≡ None ↔ ((τ : ℕ) → τ < count p → (at p τ).core ≡ pe → ¬ Running p D t begun τ)
  pub rests : (τ n : ℕ) → τ < count p → Current p (prefix ρ t) τ n → left begun τ + executed p (nth_period p (prefix ρ t) τ n) τ ≡ (ρ t).needs τ
  pub finished : (τ n : ℕ) → τ < count p → Current p (prefix ρ t) τ n → Finished p (prefix ρ t) (ρ t).needs τ n ↔ left begun τ ≡ 0
  pub after : (τ n : ℕ) → τ < count p → Current p (prefix ρ t) τ n → left (run (suc t)) τ + executed p (nth_period p (prefix ρ (suc t)) τ n) τ ≡ (ρ t).needs τ

-- every run here is one there, every run there is one here, and schedulable there is never late here
pub record SameModel (p : Contents) (D : Choice) (Above : Priority) : Type 0 where
  pub there : (run : ℕ → State) → Run p D run → (ρ : ℕ → SystemState) × SystemRun p Above ρ × ((t : ℕ) → Correspond p D run ρ t)
  pub back : (ρ : ℕ → SystemState) → SystemRun p Above ρ → (run : ℕ → State) × Run p D run × ((t : ℕ) → Correspond p D run ρ t)
  pub judged : Schedulable p Above ↔ NeverLate p D

-- the article's model with a discipline's choices for its priorities, for every plan that can exist and every discipline with its laws
abbrev pub ArticleAgrees : Type 0
ArticleAgrees = (p : Contents) (D : Choice) → Sound p → IsLawfulChoice D → SameModel p D (GoesBefore p D)

-- and with the article's own priorities, where each core has the code of its criterion
abbrev pub ArticleAgreesByCodes : Type 0
ArticleAgreesByCodes = (p : Contents) (codes : List Code) → Sound p → SameModel p (coded codes) (by_principles p codes)

-- judged by the last state of the trace, as the article has it to the letter, every task has finished before anything happened; judged by the time just chosen, as we read it, none has that needs any
abbrev pub LetterDiffers : Type 0
LetterDiffers =
    (p : Contents) (τ n : ℕ) (needs : ℕ → ℕ) → 0 < needs τ → Finished p [] (last_needs []) τ n × ¬ Finished p [] needs τ n
