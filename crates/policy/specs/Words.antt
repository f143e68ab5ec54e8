-- Numbers of 16 bits.
use Rattle.std.specs.Prelude.{ℕ, ◌^◌, ◌<◌}

-- it fits a word of 16 bits
abbrev pub FitsWord : ℕ → Type 0
FitsWord n = n < 2 ^ 16
