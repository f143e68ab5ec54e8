-- The model of computation of A. Brekling, M. R. Hansen and J. Madsen, "Models and formal verification of multiprocessor system-on-chips" (2008), section 2, in its own terms.
-- Its tasks are the handlers of a plan, by place, with the number as the unique number; its processing elements are the cores 1 to 8, and its causal dependencies the joins.
use Rattle.std.specs.Prelude.{◌≡◌, ℕ, zero, suc, ◌+◌, ◌-◌, ◌*◌, ◌<◌, ◌≤◌, true, cond, ◌≢◌, ◌⊎◌, List, [], ◌∷◌, ◌++◌, length, take, drop, Some, None, Option, ◌==◌, slice_index_or}
use Rattle.std.specs.Int.{◌∣◌}
use Rattle.plan.specs.Contents.{Contents, count, at}

-- a system state: for each processing element the task that executes there or none, and the execution vectors of all of them, put together: for each task the execution time that it needs to finish its job in the current period
pub record SystemState : Type 0 where
  pub executes : ℕ → Option ℕ
  pub needs : ℕ → ℕ

-- a trace, or history: the system states of the units so far, the oldest first; its length is the time
abbrev pub Trace : Type 0
Trace = List SystemState

-- nothing executes, and the zero-execution vector
abbrev pub idle : SystemState
idle = record { executes = λ pe. None; needs = λ τ. 0 }

-- the execution vector of the last state of a trace, or the zero-execution vector if it is empty
abbrev pub last_needs : Trace → ℕ → ℕ
last_needs h τ = (slice_index_or h (length h - 1) idle).needs τ

-- the n-th period of the task is completed in the trace
abbrev pub Completed : Contents → Trace → ℕ → ℕ → Type 0
Completed p h τ n = (1 ≤ n) × ((at p τ).offset + n * (at p τ).period ≤ length h)

-- n is the greatest number of a completed period
abbrev pub LastCompleted : Contents → Trace → ℕ → ℕ → Type 0
LastCompleted p h τ n = Completed p h τ n × ((m : ℕ) → Completed p h τ m → m ≤ n)

-- n is the number of the current period of the task in the trace: 0 before the offset, 1 in the first period, and then one more than the greatest number of a completed one
abbrev pub Current : Contents → Trace → ℕ → ℕ → Type 0
Current p h τ n =
    ((length h < (at p τ).offset) × (n ≡ 0))
    ⊎ ((((at p τ).offset ≤ length h) × (length h < (at p τ).offset + (at p τ).period) × (n ≡ 1))
    ⊎ (((at p τ).offset + (at p τ).period ≤ length h) × ((m : ℕ) × LastCompleted p h τ m × (n ≡ 1 + m))))

-- the n-th period of the task in the trace: its states, as far as there are any
abbrev pub nth_period : Contents → Trace → ℕ → ℕ → Trace
nth_period p h τ n = take (at p τ).period (drop ((at p τ).offset + (n - 1) * (at p τ).period) h)

-- 1 for the task that executes, and 0 for any other
abbrev pub executed_by : Option ℕ → ℕ → ℕ
executed_by None τ = 0
executed_by (Some x) τ = cond (x == τ) 1 0

-- the execution time of the task in a sequence of states: in how many of them it executes
abbrev pub executed : Contents → Trace → ℕ → ℕ
executed p [] τ = 0
executed p (σ ∷ h) τ = executed_by (σ.executes (at p τ).core) τ + executed p h τ

-- the task has finished its job in its n-th period in the trace, where it needs what this execution vector says
abbrev pub Finished : Contents → Trace → (ℕ → ℕ) → ℕ → ℕ → Type 0
Finished p h needs τ n = executed p (nth_period p h τ n) τ ≡ needs τ

-- an execution vector that is possible for the next state: 0 before the offset, any execution time where a period begins, and else as it was
pub record Possible (p : Contents) (h : Trace) (needs : ℕ → ℕ) : Type 0 where
  pub early : (τ : ℕ) → τ < count p → length h < (at p τ).offset → needs τ ≡ 0
  pub chosen : (τ : ℕ) → τ < count p → (at p τ).offset ≤ length h → (at p τ).period ∣ length h - (at p τ).offset → ((at p τ).shortest ≤ needs τ) × (needs τ ≤ (at p τ).longest)
  pub kept : (τ : ℕ) → τ < count p → (at p τ).offset ≤ length h → ¬ ((at p τ).period ∣ length h - (at p τ).offset) → needs τ ≡ last_needs h τ

-- the task is enabled: it is in a period, needs time, has not finished there, and all that it depends on have finished in that period
pub record Enabled (p : Contents) (h : Trace) (needs : ℕ → ℕ) (τ : ℕ) : Type 0 where
  pub period : ℕ
  pub current : Current p h τ period
  pub begun : 0 < period
  pub needy : 0 < needs τ
  pub unfinished : ¬ Finished p h needs τ period
  pub depends : (x : ℕ) → p.joined x τ ≡ true → Finished p h needs x period

-- which of two tasks of one processing element has the higher priority at a time
abbrev pub Priority : Type 1
Priority = ℕ → ℕ → ℕ → Type 0

-- what a processing element selects: no task where none is enabled, else the enabled one of the highest priority
abbrev pub Selected : Contents → Priority → Trace → (ℕ → ℕ) → ℕ → Option ℕ → Type 0
Selected p Above h needs pe None = (τ : ℕ) → τ < count p → (at p τ).core ≡ pe → ¬ Enabled p h needs τ
Selected p Above h needs pe (Some τ) =
    (τ < count p) × ((at p τ).core ≡ pe) × Enabled p h needs τ
    × ((x : ℕ) → x < count p → x ≢ τ → (at p x).core ≡ pe → Enabled p h needs x → Above (length h) τ x)

-- a possible next system state
pub record Next (p : Contents) (Above : Priority) (h : Trace) (σ : SystemState) : Type 0 where
  pub vector : Possible p h σ.needs
  pub selects : (pe : ℕ) → 1 ≤ pe → pe ≤ 8 → Selected p Above h σ.needs pe (σ.executes pe)

-- the first t states of an infinite sequence
abbrev pub prefix : (ℕ → SystemState) → ℕ → Trace
prefix ρ zero = []
prefix ρ (suc t) = prefix ρ t ++ ρ t ∷ []

-- a run of the system: each state is a possible next one after those before it
abbrev pub SystemRun : Contents → Priority → (ℕ → SystemState) → Type 0
SystemRun p Above ρ = (t : ℕ) → Next p Above (prefix ρ t) (ρ t)

-- schedulable: in every run each task finishes its job in all its periods, each by its end
abbrev pub Schedulable : Contents → Priority → Type 0
Schedulable p Above =
    (ρ : ℕ → SystemState) → SystemRun p Above ρ → (τ n : ℕ) → τ < count p → 1 ≤ n
    → Finished p (prefix ρ ((at p τ).offset + n * (at p τ).period)) (last_needs (prefix ρ ((at p τ).offset + n * (at p τ).period))) τ n
