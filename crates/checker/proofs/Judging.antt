-- The verdict by how the gathering of the marks ended.
use Rattle.std.proofs.Common.{◌≡◌, ℕ, ◌+◌, ◌≤◌, true, true≢false, List, length, sym, ap, ◌∙◌, subst, arith}
use Rattle.gather.specs.declared.Closed.{Closed}
use Rattle.gather.specs.declared.Halt.TheVariants.{Full, Fault}
use Rattle.gather.specs.Levels.{Closes, Gathered, Halts}
use Rattle.policy.specs.Laws.{Choice}
use Rattle.plan.specs.declared.plans.Plan.{Plan}
use Rattle.plan.specs.Contents.{Contents, contents, settling}
use Rattle.plan.proofs.Facts.{sound}
use Rattle.model.specs.declared.verdicts.Rows.TheVariants.{Marks}
use Rattle.model.specs.declared.verdicts.Verdict.{Verdict}
use Rattle.model.specs.declared.verdicts.Verdict.TheVariants.{Kept, Missed, RowsShort}
use Rattle.model.specs.Runs.{mark}
use Rattle.model.specs.Verdicts.{VerdictIs}
use Rattle.model.specs.declared.states.State.{State}
use Rattle.model.specs.Checks.{most_rows, KeptRows}
use Rattle.checker.specs.declared.rounds.Rounds.{Rounds}
use Rattle.checker.specs.Watching.{Watches, unseen}
use Rattle.checker.specs.Walks.{Early, is_kept, SamePlan, Looks, Begun, Halts as Halted, Rounded, Ended}
use Rattle.checker.proofs.Walking.{looks_on}
use Rattle.checker.proofs.Marching.{Settled, first_verdict, kept_marks, kept_looks, kept_verdict, short_looks, short_verdict, fault_early, fault_looks, fault_verdict}

-- a verdict of the first two tests is not kept
pub early_rows : (p : Contents) (D : Choice) (v : Verdict) (rows : List State) → Early v → KeptRows p D v rows
early_rows p D (Kept k c) rows e = absurd e
early_rows p D (Missed t n) rows e = tt
early_rows p D (RowsShort r t) rows e = tt

pub early_other : {A : Type 0} (v : Verdict) → Early v → is_kept v ≡ true → A
early_other (Kept k c) e is = absurd e
early_other (Missed t n) e is = absurd (true≢false (sym is))
early_other (RowsShort r t) e is = absurd (true≢false (sym is))

-- a verdict came before the settling time or at it
module _ {D W O : Type 0} (first : D → Choice) (members : W → List State) (room : W → ℕ) (look : O → Contents → ℕ → ℕ → List State → O → Type 0) (b u : Rounds D W O) (w : ℕ)
    (plan : Plan) (of_plan : b.moment.plan.now ≡ plan) (v : Verdict) (h : Halted first members room look w 0 (settling (contents b.moment.plan.now)) b v u) where
  pub at_first : (marks : ℕ) → VerdictIs (contents plan) (first b.d.now) w marks v
  at_first marks = first_verdict (contents plan) (first b.d.now) w marks v (rw of_plan at h.stopped)

  pub looks_first : Watches look (contents plan) (first b.d.now) 0 b.observer (unseen (contents plan) v) u.observer
  looks_first = rw of_plan at h.looks

-- they began with b at time 0, and stand at the settling time
module _ {D W O : Type 0} (first : D → Choice) (members : W → List State) (room : W → ℕ) (look : O → Contents → ℕ → ℕ → List State → O → Type 0) (b s : Rounds D W O) (w marks : ℕ)
    (plan : Plan) (of_plan : b.moment.plan.now ≡ plan) (same : SamePlan first members room look b s) (begun : Begun first members room look w b s)
    (few : marks ≤ most_rows) (t : Rounds D W O) (all : List State) where
  abbrev shows : Rounds D W O → List State
  shows u = members u.front

  abbrev steps : Rounds D W O → Rounds D W O → Type 0
  steps = Rounded first members room look

  abbrev p : Contents
  p = contents plan

  abbrev C : Choice
  C = first b.d.now

  abbrev settled : Settled first members room look s w
  settled = record { ok = sound s.moment.plan.now; clock = rw same.plan begun.clock; low = begun.low; stands = begun.stands }

  -- what was seen from the settling time on, and what before it
  looked : (e : ℕ) → Looks first members room look (s.moment.time + 1) e s t → Watches look p C 0 b.observer e t.observer
  looked e x = rw of_plan at (looks_on first members room look 0 (s.moment.time + 1) e b s t same begun.looks x)

  module _ (o : Closed) (fits : length all ≤ marks) (g : Gathered o all (Closes shows steps s o.levels t)) where
    few_levels : o.levels ≤ most_rows
    few_levels = omega (arith, g.few, g.count, fits, few)

    pub closed : VerdictIs p C w marks (Kept o.levels o.count)
    closed = rw (same.plan, of_plan, same.d, g.count) at (kept_verdict first members room look s w settled all marks fits o.levels t few_levels g.such)

    pub closed_rows : KeptRows p C (Kept o.levels o.count) all
    closed_rows = (g.count, rw (same.plan, of_plan, same.d) at (kept_marks first members room look s w settled all marks fits o.levels t few_levels g.such))

    pub closed_looks : Watches look p C 0 b.observer (unseen p (Kept o.levels o.count)) t.observer
    closed_looks = looked (mark p o.levels + 1) (subst (λ (e : ℕ). Looks first members room look (s.moment.time + 1) e s t) (ap (λ q. mark (contents q) o.levels + 1) (same.plan ∙ of_plan)) (kept_looks first members room look s w settled all marks fits o.levels t few_levels g.such))

  module _ (level : ℕ) (h : Halts shows steps (Ended first members room look) s t marks all (Full level)) where
    pub full : VerdictIs p C w marks (RowsShort Marks t.moment.time)
    full = rw (same.plan, of_plan, same.d) at (short_verdict first members room look s w settled all marks (omega (arith, h.0)) level t (omega (arith, h.1, h.0, few)) h.0 h.2)

    pub full_looks : Watches look p C 0 b.observer (unseen p (RowsShort Marks t.moment.time)) t.observer
    full_looks = looked (t.moment.time + 1) (short_looks first members room look s w settled all marks (omega (arith, h.0)) level t (omega (arith, h.1, h.0, few)) h.0 h.2)

  module _ (level count : ℕ) (v : Verdict) (fits : length all ≤ marks) (h : Halts shows steps (Ended first members room look) s t marks all (Fault level count v)) where
    few_units : level ≤ most_rows
    few_units = omega (arith, h.1, h.0, fits, few)

    pub fault : VerdictIs p C w marks v
    fault = rw (same.plan, of_plan, same.d) at (fault_verdict first members room look s w settled all marks fits level v t few_units h.2)

    pub early : Early v
    early = fault_early first members room look s w settled all marks fits level v t few_units h.2

    pub fault_looked : Watches look p C 0 b.observer (unseen p v) t.observer
    fault_looked = looked (unseen p v) (subst (λ (e : ℕ). Looks first members room look (s.moment.time + 1) e s t) (ap (λ q. unseen (contents q) v) (same.plan ∙ of_plan)) (fault_looks first members room look s w settled all marks fits level v t few_units h.2))
