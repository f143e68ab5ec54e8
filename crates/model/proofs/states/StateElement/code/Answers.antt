use Rattle.std.proofs.Common.{◌≡◌, ℕ, List, ◌+◌, ◌*◌, ◌%◌, ◌^◌, ap, sym, ◌∙◌, refl, add-one}
use Rattle.std.specs.Prelude.{slice_index}
use Rattle.model.specs.Codes.{code_to}
use Rattle.model.specs.declared.states.TheConstants.{KEYS}
use Rattle.model.proofs.states.StateElement.code.Goals as goal

code_further : (left : List ℕ) (n : ℕ) → code_to left (n + 1) ≡
    (code_to left n + slice_index left n * slice_index KEYS n % 2 ^ 16) % 2 ^ 16
unfolding code_to
code_further left n = rw add-one

pub loop-place-init : goal.loop-place-init
unfolding code_to
loop-place-init c = refl

pub loop-place-preserved : goal.loop-place-preserved
loop-place-preserved c =
    let left = c.args.self.now.left in
    let n = c.loop-place.place in
    ap (λ s. (s + slice_index left n * slice_index KEYS n % 2 ^ 16) % 2 ^ 16) c.loop-place.invariant ∙
    sym (code_further left n)
