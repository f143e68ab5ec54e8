-- What an observer has seen, one stretch of times after another.
use Rattle.std.proofs.Common.{◌≡◌, ℕ, ◌+◌, ◌-◌, List, refl, arith}
use Rattle.policy.specs.Laws.{Choice}
use Rattle.plan.specs.Contents.{Contents}
use Rattle.model.specs.declared.states.State.{State}
use Rattle.checker.specs.Fronts.{Front}
use Rattle.checker.specs.Watching.{Watches, nothing, further}

module _ {O : Type 0} (seen : O → Contents → ℕ → ℕ → List State → O → Type 0) (p : Contents) (D : Choice) where
  pub watches_on : (from : ℕ) (a : O) (t : ℕ) (b : O) {u : ℕ} {c : O} → Watches seen p D from a t b → Watches seen p D t b u c → Watches seen p D from a u c
  watches_on from a t b x nothing = x
  watches_on from a t b x (further y times rows some sum are look) = further (watches_on from a t b x y) times rows some sum are look

  -- one look at the states of one time
  pub watches_one : (t : ℕ) (rows : List State) (a b : O) → Front p D t rows → seen a p t 1 rows b → Watches seen p D t a (t + 1) b
  watches_one t rows a b f look =
      let e : t + 1 - 1 ≡ t = omega arith in
      further nothing 1 rows (omega arith) refl (λ k l. let z : t + k ≡ t = omega (arith, l) in rw z f) (rw e look)
