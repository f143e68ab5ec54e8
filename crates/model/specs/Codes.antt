-- The code by which an index files a state.
use Rattle.std.specs.Prelude.{ℕ, zero, suc, ◌+◌, ◌*◌, ◌%◌, ◌^◌, List, slice_index}
use Rattle.model.specs.declared.states.TheConstants.{KEYS}

-- the sum of the first times left, so many of them, each by the key of its place, counted round
-- at 2 ^ 16
unfoldable pub code_to : List ℕ → ℕ → ℕ
code_to left zero = 0
code_to left (suc n) = (code_to left n + slice_index left n * slice_index KEYS n % 2 ^ 16) % 2 ^ 16

-- the same sum over all places
abbrev pub code_of : List ℕ → ℕ
code_of left = code_to left 64
