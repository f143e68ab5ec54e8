-- A state from the time left of each place.
use Rattle.std.proofs.Common.{◌≡◌, ℕ, ◌<◌, map, length, arith}
use Rattle.std.specs.List.{range_with_len}
use Rattle.std.proofs.lemmas.List.FromFn.{length-map-range_with_len, get_or-map-range_with_len}
use Rattle.model.specs.Units.{State, left}

abbrev pub made : ℕ → (ℕ → ℕ) → State
made n f = map f (range_with_len 0 n)

pub made_long : (n : ℕ) (f : ℕ → ℕ) → length (made n f) ≡ n
made_long n f = length-map-range_with_len f 0 n

pub made_left : (n : ℕ) (f : ℕ → ℕ) (i : ℕ) → i < n → left (made n f) i ≡ f i
made_left n f i h = get_or-map-range_with_len f 0 n i i 0 h (omega arith)
