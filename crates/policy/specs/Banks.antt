-- Which of a bank's two sides answers for a core, and what the bank then means.
use Rattle.std.specs.Prelude.{◌-◌, Bool, List, slice_index_or}
use Rattle.policy.specs.declared.cores.Core.{Core}
use Rattle.policy.specs.declared.banks.Side.{Side}
use Rattle.policy.specs.declared.banks.Side.TheVariants.{Left, Right}
use Rattle.policy.specs.Laws.{Choice}

-- what a table of eight sides says of a core
abbrev pub side_at : List Side → Core → Side
side_at sides k = slice_index_or sides (k.number - 1) Left

-- the answer of the side
abbrev pub chosen : Side → Bool → Bool → Bool
chosen Left l r = l
chosen Right l r = r

-- each core asks its own side
abbrev pub banked : (Core → Side) → Choice → Choice → Choice
banked side l r k a b t = chosen (side k) (l k a b t) (r k a b t)
