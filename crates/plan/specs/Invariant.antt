-- What the type of a plan says of its fields.
use Rattle.std.specs.Prelude.{◌≡◌, ℕ, ◌≤◌, Bool, List, length, take}
use Rattle.plan.specs.declared.handlers.Handler.{Handler}
use Rattle.plan.specs.Rows.{AllInRange, BlankFrom, round_of, settling_of, longest_round, Common, Least, Divides, Bounded, Tight}
use Rattle.plan.specs.Joins.{joined_in, Inside, OnePeriod, OneOffset, NoCircle, Wide}

-- the fields of every plan: a row past the last handler is blank, so equal contents are equal plans
pub record IsPlan (count round settling : ℕ) (handlers : List Handler) (joins : List (List Bool)) : Type 0 where
  -- the handlers
  pub few : count ≤ 64
  pub ranges : AllInRange count handlers
  pub blanks : BlankFrom count handlers
  -- the round and the settling time, as they are computed
  pub rounds : round ≡ round_of (take count handlers)
  pub short : round ≤ longest_round
  pub settles : settling ≡ settling_of (take count handlers)
  -- the joins are between handlers of one timing, and run in no circle
  pub inside : Inside count joins
  pub periods : OnePeriod handlers joins
  pub offsets : OneOffset handlers joins
  pub straight : NoCircle (joined_in joins)
  -- the arrays are whole
  pub rows : length handlers ≡ 64
  pub tall : length joins ≡ 64
  pub wide : Wide joins
  -- the round is the least number that every period divides, and the settling time is the greatest offset
  pub some : 1 ≤ round
  pub common : Common (take count handlers) round
  pub least : Least (take count handlers) round
  pub divides : Divides (take count handlers) round
  pub above : Bounded (take count handlers) settling
  pub tight : Tight (take count handlers) settling
