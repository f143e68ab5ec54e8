-- The front of time 0.
use Rattle.std.proofs.Common.{◌≡◌, ℕ, List, [], ◌∷◌, ◌++◌, drop, replicate, sym, ap, ◌∙◌, subst, arith}
use Rattle.std.proofs.lemmas.List.{drop-replicate}
use Rattle.policy.specs.Laws.{Choice}
use Rattle.plan.specs.Contents.{Contents, Sound, count}
use Rattle.model.specs.Units.{zeros}
use Rattle.model.specs.Runs.{StateAt}
use Rattle.model.specs.Verdicts.{Outnumber}
use Rattle.model.proofs.Lists.{has_none, has_only, once_none, once_cons}
use Rattle.model.proofs.Extend.{some_run}
use Rattle.model.specs.declared.states.State.{State}
use Rattle.model.specs.Memory.{times}
use Rattle.checker.proofs.Holding.{front_one}
use Rattle.checker.specs.Fronts.{Front}
use Rattle.model.specs.Memory.{Holds}

module _ (p : Contents) (D : Choice) (ok : Sound p) where
  zeros_first : (v : List ℕ) → StateAt p D 0 v → zeros p ≡ v
  zeros_first v a = sym a.1.begins ∙ a.2

  first_zeros : StateAt p D 0 (zeros p)
  first_zeros = let r = some_run p D ok in (r.0, r.1, r.1.begins)

  module _ (x : State) (left : times p x ≡ zeros p) (blank : x.left ≡ replicate 64 0) where
    holds_first : Holds p x (zeros p)
    holds_first = record { left = left; blank = ap (drop (count p)) blank ∙ drop-replicate (count p) 64 0 }

    front_first : Front p D 0 (x ∷ [])
    front_first = front_one p D 0 x (zeros p) holds_first first_zeros zeros_first

    pub first_front : (rows : List State) → rows ≡ [] ++ x ∷ [] → Front p D 0 rows
    first_front rows e = rw e front_first

  pub first_outnumbers : (room : ℕ) → 0 ≡ room → Outnumber (StateAt p D 0) room
  first_outnumbers room none = record {
    states = zeros p ∷ [];
    once = once_cons (zeros p) [] (has_none (zeros p)) once_none;
    such = λ v h. subst (StateAt p D 0) (has_only (zeros p) v h) first_zeros;
    many = omega (arith, none);
  }
