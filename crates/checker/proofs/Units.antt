-- One unit on, from the states of one time to those of the next.
use Rattle.std.proofs.Common.{◌≡◌, ℕ, ◌+◌, ◌<◌, ◌≤◌, List, map, length, Some, None, refl, subst, arith}
use native.Mathlib.Decide.{ℕ_discrete}
use Rattle.std.specs.List.{Contains as Has}
use Rattle.std.proofs.lemmas.List.{length-map}
use Rattle.gather.proofs.Counting.{once_fits}
use Rattle.policy.specs.Laws.{Choice}
use Rattle.plan.specs.Contents.{Contents}
use Rattle.model.specs.declared.verdicts.Rows.TheVariants.{Working}
use Rattle.model.specs.declared.verdicts.Verdict.TheVariants.{Missed, RowsShort}
use Rattle.model.specs.Runs.{StateAt, Misses}
use Rattle.model.specs.Verdicts.{Outnumber}
use Rattle.model.proofs.Lists.{has_map}
use Rattle.model.specs.declared.states.State.{State}
use Rattle.model.specs.Memory.{times}
use Rattle.checker.specs.Fronts.{Front, Lowest}
use Rattle.checker.specs.Walks.{Quiet, Reached, Stopped}

-- states that all have a row are no more than the rows
pub rows_fit : (p : Contents) (D : Choice) (w t : ℕ) (rows : List State) → Front p D t rows → length rows ≤ w → ¬ Outnumber (StateAt p D t) w
rows_fit p D w t rows f few o =
    let in_rows : (v : List ℕ) → Has o.states v → Has (map (times p) rows) v = λ v h. (let r = f.each v (o.such v h) in subst (Has (map (times p) rows)) r.2.left (has_map (times p) r.0 rows r.1)) in
    let le : length o.states ≤ length (map (times p) rows) = once_fits o.states (map (times p) rows) o.once in_rows in
    omega (arith, le, few, o.many, length-map rows (times p))

module _ (p : Contents) (D : Choice) (w t : ℕ) where
  module _ (rows : List State) (r : Reached p D w t rows) where
    before : (e : ℕ) → e < t + 1 → Quiet p D w e
    before e l = r.quiet e (omega arith)

    pub short_on : Outnumber (StateAt p D (t + 1)) w → Stopped p D w (t + 1) (t + 1) (RowsShort Working (t + 1))
    short_on o = record { time = t + 1; low = omega arith; high = omega arith; quiet = before; gives = λ m. (refl, o); early = tt }

    module _ (next : List State) (f : Front p D (t + 1) next) (few : length next ≤ w) where
      fits : ¬ Outnumber (StateAt p D (t + 1)) w
      fits = rows_fit p D w (t + 1) next f few

      pub reached_on : Lowest (Misses p D (t + 1)) None → Reached p D w (t + 1) next
      reached_on timely = record { front = f; quiet = λ e l. up_to e l (ℕ_discrete e (t + 1)) }
        where
          up_to : (e : ℕ) → e ≤ t + 1 → Dec (e ≡ t + 1) → Quiet p D w e
          up_to e l (yes is) = rw is (record { fits = fits; timely = timely })
          up_to e l (no not) = r.quiet e (omega arith)

      pub missed_on : (n : ℕ) → Lowest (Misses p D (t + 1)) (Some n) → Stopped p D w (t + 1) (t + 1) (Missed (t + 1) n)
      missed_on n miss = record { time = t + 1; low = omega arith; high = omega arith; quiet = before; gives = λ m. (refl, fits, miss); early = tt }
