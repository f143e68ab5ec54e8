-- Two states in memory are one where their times left are.
use Rattle.std.specs.Prelude.{◌≡◌, Decides}
use Rattle.std.specs.Str.{bytes_eq}
use Rattle.std.proofs.Common.{ap}
use Rattle.std.proofs.lemmas.Slice.Eq.{bytes_eq-Decides}
use denote.Struct.Record.{values_one}
use Rattle.model.specs.declared.states.State.{State}
use Rattle.model.specs.contracts.states.State as row

pub state_one : (x y : State) → x.left ≡ y.left → x ≡ y
state_one x y e = values_one row.struct row.the_propositions x y cc

pub state_told : (x y : State) → Decides (bytes_eq x.left y.left) (x ≡ y)
state_told x y =
    let d = bytes_eq-Decides x.left y.left in
    (λ t. state_one x y (d.0 t), λ e. d.1 (ap (λ (s : State). s.left) e))
