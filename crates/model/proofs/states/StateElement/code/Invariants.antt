use Rattle.std.proofs.Common.{◌≡◌}
use Rattle.model.specs.Codes.{code_to}
use Rattle.model.proofs.states.StateElement.code.Given as goal

abbrev pub invariant-loop-place : goal.invariant-loop-place
invariant-loop-place l = l.code ≡ code_to l.self.left l.place
