use Rattle.std.proofs.Common.{◌≡◌, ℕ, zero, suc, ◌+◌, ◌-◌, ◌<◌, ◌≤◌, List, get_or, refl, inl, inr, arith, rules}
use denote.Param.Members.{Mut, Called}
use Rattle.std.specs.Array.{IsFromFnResultFrom}
use Rattle.std.proofs.lemmas.Bool.{cases_eq, cases_lt}
use Rattle.std.proofs.lemmas.List.{get_or_past}
use Rattle.checker.proofs.following.reaching.lowered.Goals as goal

-- what `from_fn` makes, where each call of the closure keeps K and gives at the index k a number of which R holds
module _ {F : Type 0} {g : Mut F (ℕ × Unit {0}) ℕ} (K : F → Type 0) (R : ℕ → ℕ → Type 0)
    (calls : (f : F) (k y : ℕ) (q : F) → K f → Called g f (k, tt) y q → K q × R k y) where
  each_from : (f : F) (ys : List ℕ) (i n : ℕ) → K f → IsFromFnResultFrom g f ys i n → (k : ℕ) → i ≤ k → k < i + n → R k (get_or ys k 0)
  each_from f ys i zero kept made k low high = absurd (omega arith)
  each_from f ys i (suc n) kept (q, y, is, call, rest) k low high =
      let both = calls f i y q kept call in
      elim (cases_eq k i) [
        | inl e ↦ rw (e, is.1 0) both.1
        | inr ne ↦ each_from q ys (i + 1) n both.0 rest k (omega arith) (omega arith)
      ]

pub returns : goal.returns
returns c i =
    let goes : ℕ → ℕ = λ k. get_or c.args.high.now.left k 0 - (get_or c.args.low.now.left k 0 - get_or c.args.served.now.left k 0) in
    elim (cases_lt i 64) [
      | inl l ↦
          each_from (λ f. (f.0.now ≡ c.args.low.now) × (f.1.now ≡ c.args.served.now) × (f.2.now ≡ c.args.high.now)) (λ k y. y ≡ goes k)
          (λ f k y q kept call. search rules) (c.args.low, c.args.served, c.args.high) c.from_fn-left.result 0 64 (refl, refl, refl) c.from_fn-left.ensures.items.each i (omega arith) l
      | inr h ↦
          (let a : get_or c.from_fn-left.result i 0 ≡ 0 = get_or_past c.from_fn-left.result i 0 (omega (arith, c.from_fn-left.ensures.items.long)) in
          let b : get_or c.args.high.now.left i 0 ≡ 0 = get_or_past c.args.high.now.left i 0 (omega (arith, c.args.high.now.whole)) in
          omega arith)
    ]
