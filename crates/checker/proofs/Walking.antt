-- So many units on, one after another.
use Rattle.std.proofs.Common.{◌≡◌, ℕ, ◌+◌, ◌≤◌, List, Result, Ok, Err, MatchResult, refl, ap, subst, ◌∙◌, arith}
use Rattle.policy.specs.Laws.{Choice}
use Rattle.plan.specs.Contents.{Contents, contents, round}
use Rattle.model.specs.declared.verdicts.Verdict.{Verdict}
use Rattle.model.specs.declared.states.State.{State}
use Rattle.checker.specs.declared.rounds.Rounds.{Rounds}
use Rattle.checker.specs.Watching.{nothing, unseen}
use Rattle.checker.specs.Walks.{Stopped, Stands, SamePlan, Looks, Later, HaltsIn, Goes, Walks, Rounded, Ended}
use Rattle.checker.proofs.Looking.{watches_on}

pub stopped_within : (p : Contents) (D : Choice) (w from last low high : ℕ) (v : Verdict) → low ≤ from → last ≤ high → Stopped p D w from last v → Stopped p D w low high v
stopped_within p D w from last low high v l h x = record { time = x.time; low = omega (arith, l, x.low); high = omega (arith, h, x.high); quiet = x.quiet; gives = x.gives; early = x.early }

module _ {D W O : Type 0} (first : D → Choice) (members : W → List State) (room : W → ℕ) (seen : O → Contents → ℕ → ℕ → List State → O → Type 0) where
  pub same_still : (s : Rounds D W O) → SamePlan first members room seen s s
  same_still s = record { plan = refl; d = refl }

  pub same_on : (s u v : Rounds D W O) → SamePlan first members room seen s u → SamePlan first members room seen u v → SamePlan first members room seen s v
  same_on s u v x y = record { plan = y.plan ∙ x.plan; d = y.d ∙ x.d }

  pub looks_on : (from t r : ℕ) (s u v : Rounds D W O) → SamePlan first members room seen s u → Looks first members room seen from t s u → Looks first members room seen t r u v → Looks first members room seen from r s v
  looks_on from t r s u v same x y = watches_on seen (contents s.moment.plan.now) (first s.d.now) from s.observer t u.observer x (rw (same.plan, same.d) at y)

  pub later_none : (w : ℕ) (s : Rounds D W O) → Stands first members room seen w s → Later first members room seen 0 w s s
  later_none w s x = record { clock = omega arith; stands = x; looks = nothing }

  -- after n of the units, with more to come
  module _ (w units n : ℕ) (s u : Rounds D W O) (same : SamePlan first members room seen s u) (go : Goes first members room seen units w s) (x : Later first members room seen n w s u) where
    pub goes_on : (m : ℕ) → n + m ≤ units → Goes first members room seen m w u
    goes_on m le = (x.stands, omega (arith, x.clock, go.1, le))

    pub later_on : (m : ℕ) (v : Rounds D W O) → Later first members room seen m w u v → Later first members room seen (n + m) w s v
    later_on m v y = record {
      clock = omega (arith, x.clock, y.clock);
      stands = y.stands;
      looks = looks_on (s.moment.time + 1) (u.moment.time + 1) (v.moment.time + 1) s u v same x.looks y.looks;
    }

    pub halts_on : (m : ℕ) → n + m ≤ units → (v : Verdict) (r : Rounds D W O) → HaltsIn first members room seen m w u v r → HaltsIn first members room seen units w s v r
    halts_on m le v r y =
        let same_unseen : unseen (contents u.moment.plan.now) v ≡ unseen (contents s.moment.plan.now) v = ap (λ q. unseen (contents q) v) same.plan in
        let z : Stopped (contents s.moment.plan.now) (first s.d.now) w (u.moment.time + 1) (u.moment.time + m) v = rw (same.plan, same.d) at y.stopped in
        let seen_on : Looks first members room seen (u.moment.time + 1) (unseen (contents s.moment.plan.now) v) u r = subst (λ e. Looks first members room seen (u.moment.time + 1) e u r) same_unseen y.looks in
        record {
          stopped = stopped_within (contents s.moment.plan.now) (first s.d.now) w (u.moment.time + 1) (u.moment.time + m) (s.moment.time + 1) (s.moment.time + units) v (omega (arith, x.clock)) (omega (arith, x.clock, le)) z;
          looks = looks_on (s.moment.time + 1) (u.moment.time + 1) (unseen (contents s.moment.plan.now) v) s u r same x.looks seen_on;
        }

  -- what a round is told by, for any number of units
  rounded : (units : ℕ) (s u : Rounds D W O) (r : Result (Unit {0}) Verdict) → SamePlan first members room seen s u → Walks first members room seen units s u r
      → MatchResult r (λ _. SamePlan first members room seen s u × ((w : ℕ) → Goes first members room seen units w s → Later first members room seen units w s u))
      (λ v. SamePlan first members room seen s u × ((w : ℕ) → Goes first members room seen units w s → HaltsIn first members room seen units w s v u))
  rounded units s u (Ok x) same f = (same, f)
  rounded units s u (Err v) same f = (same, f)

  pub round_on : (units : ℕ) (s u : Rounds D W O) (r : Result (Unit {0}) Verdict) → units ≡ round (contents s.moment.plan.now) → SamePlan first members room seen s u
      → Walks first members room seen units s u r → MatchResult r (λ _. Rounded first members room seen s u) (λ v. Ended first members room seen s v u)
  round_on units s u r e same f = rounded (round (contents s.moment.plan.now)) s u r same (subst (λ (n : ℕ). Walks first members room seen n s u r) e f)
