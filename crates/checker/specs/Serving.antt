-- Serving core after core.
use Rattle.std.specs.Prelude.{◌≡◌, ℕ, suc, ◌<◌, ◌≤◌, List, length, take, slice_index}
use Rattle.policy.specs.Laws.{Choice}
use Rattle.plan.specs.Contents.{Contents, count, at}
use Rattle.model.specs.Units.{Running}

-- the handler at the place i runs, on one of the cores 1 to m
pub record RunsTo (p : Contents) (D : Choice) (t : ℕ) (was : List ℕ) (m i : ℕ) : Type 0 where
  pub known : i < count p
  pub runs : Running p D t (take (count p) was) i
  pub low : (at p i).core ≤ m

-- those that run on the cores 1 to m have lost one unit, and nobody else has lost any
pub record ServedTo (p : Contents) (D : Choice) (t : ℕ) (was : List ℕ) (m : ℕ) (now : List ℕ) : Type 0 where
  pub long : length now ≡ length was
  pub lost : (i : ℕ) → RunsTo p D t was m i → slice_index was i ≡ suc (slice_index now i)
  pub kept : (i : ℕ) → ¬ RunsTo p D t was m i → slice_index now i ≡ slice_index was i
