-- Walking on from time to time with the states of each time in a table, until a verdict comes.
use Rattle.std.specs.Prelude.{◌≡◌, ℕ, ◌+◌, ◌<◌, ◌≤◌, Bool, true, false, List, Result, MatchResult}
use Rattle.policy.specs.Laws.{Choice}
use Rattle.plan.specs.Contents.{Contents, contents, round, settling}
use Rattle.model.specs.declared.verdicts.Rows.TheVariants.{Working, Marks}
use Rattle.model.specs.declared.verdicts.Verdict.{Verdict}
use Rattle.model.specs.declared.verdicts.Verdict.TheVariants.{Kept, Missed, RowsShort}
use Rattle.model.specs.Runs.{StateAt}
use Rattle.model.specs.Verdicts.{Outnumber, Timely, Gives}
use Rattle.model.specs.declared.states.State.{State}
use Rattle.checker.specs.Fronts.{Front}
use Rattle.checker.specs.declared.rounds.Rounds.{Rounds}
use Rattle.checker.specs.Watching.{Watches, unseen}

-- the first two tests give no verdict at t: the states then are no more than w, and no run is late
pub record Quiet (p : Contents) (D : Choice) (w t : ℕ) : Type 0 where
  pub fits : ¬ Outnumber (StateAt p D t) w
  pub timely : Timely p D t

-- the rows are the states at t, and all was quiet up to then
pub record Reached (p : Contents) (D : Choice) (w t : ℕ) (rows : List State) : Type 0 where
  pub front : Front p D t rows
  pub quiet : (e : ℕ) → e ≤ t → Quiet p D w e

-- one of the first two tests gives it
abbrev pub Early : Verdict → Type 0
Early (Kept k c) = ⊥
Early (Missed t n) = Unit {0}
Early (RowsShort Working t) = Unit {0}
Early (RowsShort Marks t) = ⊥

-- this verdict came at a time from `from` to `last`, by one of the first two tests, and all was quiet before
pub record Stopped (p : Contents) (D : Choice) (w from last : ℕ) (v : Verdict) : Type 0 where
  pub time : ℕ
  pub low : from ≤ time
  pub high : time ≤ last
  pub quiet : (e : ℕ) → e < time → Quiet p D w e
  pub gives : (m : ℕ) → Gives p D w m time v
  pub early : Early v

-- the verdict is kept
abbrev pub is_kept : Verdict → Bool
is_kept (Kept k c) = true
is_kept (Missed t n) = false
is_kept (RowsShort rows t) = false

-- times that a clock can show are below this
abbrev pub end_of_time : ℕ
end_of_time = 18446744073709551616

-- by the meaning of a discipline, by the rows of a table and how many it has room for, and by what an
-- observer says of one look
module _ {D W O : Type 0} (first : D → Choice) (members : W → List State) (room : W → ℕ)
    (seen : O → Contents → ℕ → ℕ → List State → O → Type 0) where
  -- they stand at their time, with tables of w rows
  pub record Stands (w : ℕ) (s : Rounds D W O) : Type 0 where
    pub front_room : room s.front ≡ w
    pub back_room : room s.back ≡ w
    pub reached : Reached (contents s.moment.plan.now) (first s.d.now) w s.moment.time (members s.front)

  -- they are of one plan, under one discipline
  pub record SamePlan (s u : Rounds D W O) : Type 0 where
    pub plan : u.moment.plan.now ≡ s.moment.plan.now
    pub d : u.d.now ≡ s.d.now

  -- the observer saw the states of the times from `from` on to before t
  abbrev pub Looks : ℕ → ℕ → Rounds D W O → Rounds D W O → Type 0
  Looks from t s u = Watches seen (contents s.moment.plan.now) (first s.d.now) from s.observer t u.observer

  -- they stand there so many units after s
  pub record Later (units w : ℕ) (s u : Rounds D W O) : Type 0 where
    pub clock : u.moment.time ≡ s.moment.time + units
    pub stands : Stands w u
    pub looks : Looks (s.moment.time + 1) (u.moment.time + 1) s u

  -- they stand at the settling time
  pub record Begun (w : ℕ) (s u : Rounds D W O) : Type 0 where
    pub clock : u.moment.time ≡ settling (contents s.moment.plan.now)
    pub low : u.moment.time < 65536
    pub stands : Stands w u
    pub looks : Looks 0 (u.moment.time + 1) s u

  -- a verdict came at a time from `from` to `last`, and the observer saw the times from `from` on
  pub record Halts (w from last : ℕ) (s : Rounds D W O) (v : Verdict) (u : Rounds D W O) : Type 0 where
    pub stopped : Stopped (contents s.moment.plan.now) (first s.d.now) w from last v
    pub looks : Looks from (unseen (contents s.moment.plan.now) v) s u

  -- they stand somewhere, and so many units on the clock does not yet stop
  abbrev pub Goes : ℕ → ℕ → Rounds D W O → Type 0
  Goes units w s = Stands w s × (s.moment.time + units < end_of_time)

  -- a verdict came within so many units
  abbrev pub HaltsIn : ℕ → ℕ → Rounds D W O → Verdict → Rounds D W O → Type 0
  HaltsIn units w s v u = Halts w (s.moment.time + 1) (s.moment.time + units) s v u

  -- some units on, one at the least and so many at the most: they stand there, or a verdict came
  abbrev pub GoesOn : ℕ → Rounds D W O → Rounds D W O → Result ℕ Verdict → Type 0
  GoesOn most s u r = MatchResult r
      (λ n. (1 ≤ n) × (n ≤ most) × ((w : ℕ) → Goes n w s → Later n w s u))
      (λ v. (w : ℕ) → Goes 1 w s → HaltsIn 1 w s v u)

  -- so many units on, from wherever they stood: they stand there, or a verdict came on the way
  abbrev pub Walks : ℕ → Rounds D W O → Rounds D W O → Result (Unit {0}) Verdict → Type 0
  Walks units s u r = (w : ℕ) → Goes units w s
      → MatchResult r (λ _. Later units w s u) (λ v. HaltsIn units w s v u)

  -- from time 0 to the settling time, with tables of w rows
  abbrev pub Settles : Rounds D W O → Rounds D W O → Result (Unit {0}) Verdict → Type 0
  Settles s u r = (w : ℕ) → s.moment.time ≡ 0 → room s.front ≡ w → room s.back ≡ w
      → MatchResult r (λ _. Begun w s u) (λ v. Halts w 0 (settling (contents s.moment.plan.now)) s v u)

  -- a whole round on
  abbrev pub Rounded : Rounds D W O → Rounds D W O → Type 0
  Rounded s u = SamePlan s u × ((w : ℕ) → Goes (round (contents s.moment.plan.now)) w s
      → Later (round (contents s.moment.plan.now)) w s u)

  -- or a verdict comes on the way
  abbrev pub Ended : Rounds D W O → Verdict → Rounds D W O → Type 0
  Ended s v u = SamePlan s u × ((w : ℕ) → Goes (round (contents s.moment.plan.now)) w s
      → HaltsIn (round (contents s.moment.plan.now)) w s v u)
