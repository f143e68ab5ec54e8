use Rattle.std.proofs.Common.{◌≡◌, ℕ, ◌⊎◌, get_or}
use Rattle.std.specs.Int.{bit_at}
use Rattle.checker.proofs.priorities.serving.all_done.Given as goal

abbrev pub invariant-loop-rest : goal.invariant-loop-rest
invariant-loop-rest l = record {
  some : (a : ℕ) → bit_at l.rest a ≡ 1 → bit_at l.places a ≡ 1;
  others : (a : ℕ) → bit_at l.places a ≡ 1 → (bit_at l.rest a ≡ 1) ⊎ (get_or l.state.left a 0 ≡ 0);
}

abbrev pub decreases-loop-rest : goal.decreases-loop-rest
decreases-loop-rest l = l.rest
