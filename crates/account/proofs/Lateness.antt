-- Who is late, found in the states of a time.
use Rattle.std.proofs.Common.{ℕ, ◌-◌, ◌<◌, Bool, true, false, List, length, get_or, MatchBool, Decides, sym, refl, subst, arith}
use Rattle.std.specs.List.{HoldsAt, AllWithin}
use Rattle.std.proofs.lemmas.Bool.{true≢false}
use Rattle.std.proofs.lemmas.List.Elements.{Contains-get_or}
use Rattle.plan.specs.Contents.{Contents, Known}
use Rattle.model.specs.Runs.{Late}
use Rattle.model.specs.declared.states.State.{State}
use Rattle.model.specs.Memory.{times}
use Rattle.checker.specs.Fronts.{idle, LateInOne}

module _ (p : Contents) (t : ℕ) (states : List State) where
  -- the handler of number n, in a state
  abbrev pub IsLate : ℕ → State → Type 0
  IsLate n x = Known p n × Late p t (times p x) (n - 1)

  pub late_told : (n : ℕ) (r : Bool)
      → MatchBool r ((k : ℕ) × (k < length states) × HoldsAt (IsLate n) states k)
      (AllWithin (λ x. ¬ IsLate n x) states 0 (length states))
      → Decides r (Known p n × LateInOne p t states (n - 1))
  late_told n true (k, lt, holds) =
      let x = get_or states k idle in
      (λ _. (let is = holds idle in (is.0, (x, Contains-get_or states k idle lt, is.1))), λ _. refl)
  late_told n false h = (
    λ e. absurd (true≢false (sym e)),
    λ (known, (x, has, late)). absurd (h has.0 x (omega arith) has.1 (known, subst (λ (s : State). Late p t (times p s) (n - 1)) (sym has.2) late)),
  )
