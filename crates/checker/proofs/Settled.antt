-- The states at time 0.
use Rattle.std.proofs.Common.{◌≡◌, ℕ, ◌+◌, ◌<◌, ◌≤◌, List, length, Result, Ok, Err, MatchResult, refl, ap, subst, arith}
use Rattle.policy.specs.Laws.{Choice}
use Rattle.plan.specs.Contents.{Contents, contents, Sound, settling}
use Rattle.model.specs.declared.verdicts.Rows.TheVariants.{Working}
use Rattle.model.specs.declared.verdicts.Verdict.{Verdict}
use Rattle.model.specs.declared.verdicts.Verdict.TheVariants.{RowsShort}
use Rattle.model.specs.Runs.{StateAt}
use Rattle.model.specs.Verdicts.{Outnumber, Timely}
use Rattle.model.specs.declared.states.State.{State}
use Rattle.checker.specs.Fronts.{Front}
use Rattle.checker.specs.declared.rounds.Rounds.{Rounds}
use Rattle.checker.specs.Watching.{unseen}
use Rattle.checker.specs.Walks.{Reached, Stopped, SamePlan, Looks, Later, Begun, Halts, HaltsIn, Goes}
use Rattle.checker.proofs.Walking.{stopped_within, looks_on}
use Rattle.checker.proofs.Units.{rows_fit}

module _ (p : Contents) (D : Choice) (ok : Sound p) (w : ℕ) where
  -- at time 0 no period has ended
  timely_first : Timely p D 0
  timely_first i (v, at, late) = omega (arith, late.due, (ok.ranges i late.known).0)

  reached_first : (rows : List State) → Front p D 0 rows → length rows ≤ w → Reached p D w 0 rows
  reached_first rows f few = record {
    front = f;
    quiet = λ e l. (let is : e ≡ 0 = omega arith in rw is (record { fits = rows_fit p D w 0 rows f few; timely = timely_first }));
  }

  pub short_first : (last : ℕ) → Outnumber (StateAt p D 0) w → Stopped p D w 0 last (RowsShort Working 0)
  short_first last o = record { time = 0; low = omega arith; high = omega arith; quiet = λ e l. absurd (omega (arith, l)); gives = λ m. (refl, o); early = tt }

module _ {D W O : Type 0} (first : D → Choice) (members : W → List State) (room : W → ℕ) (seen : O → Contents → ℕ → ℕ → List State → O → Type 0) (s : Rounds D W O) (w units : ℕ) where
  -- from time 0 on, a clock can count as many units as a settling time has
  pub start_goes : Sound (contents s.moment.plan.now) → s.moment.time ≡ 0 → room s.front ≡ w → room s.back ≡ w
      → Front (contents s.moment.plan.now) (first s.d.now) 0 (members s.front) → length (members s.front) ≤ room s.front → units < 65536 → Goes first members room seen units w s
  start_goes ok clock r b f few short = (
    record {
      front_room = r;
      back_room = b;
      reached = rw clock (reached_first (contents s.moment.plan.now) (first s.d.now) ok w (members s.front) f (omega (arith, few, r)));
    },
    omega (arith, clock, short),
  )

  module _ (u : Rounds D W O) (r : Result (Unit {0}) Verdict) (b : Rounds D W O) (same : SamePlan first members room seen b s) (clock : s.moment.time ≡ 0) (l : Looks first members room seen 0 1 b s)
      (all : units ≡ settling (contents b.moment.plan.now)) (short : units < 65536) where
    -- on from the states of time 0, which were seen
    pub settled : MatchResult r (λ _. Later first members room seen units w s u) (λ v. HaltsIn first members room seen units w s v u)
        → MatchResult r (λ _. Begun first members room seen w b u) (λ v. Halts first members room seen w 0 (settling (contents b.moment.plan.now)) b v u)
    settled = go r
      where
        from_one : s.moment.time + 1 ≡ 1
        from_one = omega (arith, clock)

        looked : (e : ℕ) → Looks first members room seen (s.moment.time + 1) e s u → Looks first members room seen 0 e b u
        looked e x = looks_on first members room seen 0 1 e b s u same l (subst (λ (f : ℕ). Looks first members room seen f e s u) from_one x)

        go : (r : Result (Unit {0}) Verdict) → MatchResult r (λ _. Later first members room seen units w s u) (λ v. HaltsIn first members room seen units w s v u)
            → MatchResult r (λ _. Begun first members room seen w b u) (λ v. Halts first members room seen w 0 (settling (contents b.moment.plan.now)) b v u)
        go (Ok o) x = record {
          clock = omega (arith, x.clock, clock, all);
          low = omega (arith, x.clock, clock, short);
          stands = x.stands;
          looks = looked (u.moment.time + 1) x.looks;
        }
        go (Err v) x =
            let z : Stopped (contents b.moment.plan.now) (first b.d.now) w (s.moment.time + 1) (s.moment.time + units) v = rw (same.plan, same.d) at x.stopped in
            let e : unseen (contents s.moment.plan.now) v ≡ unseen (contents b.moment.plan.now) v = ap (λ q. unseen (contents q) v) same.plan in
            record {
              stopped = stopped_within (contents b.moment.plan.now) (first b.d.now) w (s.moment.time + 1) (s.moment.time + units) 0 (settling (contents b.moment.plan.now)) v (omega arith) (omega (arith, clock, all)) z;
              looks = subst (λ (f : ℕ). Looks first members room seen 0 f b u) e (looked (unseen (contents s.moment.plan.now) v) x.looks);
            }
