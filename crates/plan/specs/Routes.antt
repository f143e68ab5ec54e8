-- Going along the joins, level by level. Handlers go by their numbers, each one more than its place in the table.
use Rattle.std.specs.Prelude.{◌≡◌, ℕ, ◌-◌, ◌≤◌, Bool, true, ◌⊎◌, List, Any}
use Rattle.std.specs.List.{Contains as Has}
use Rattle.plan.specs.Joins.{joined_in, Chain}

-- the table joins the handler of number a before that of number b
abbrev pub JoinedBefore : List (List Bool) → ℕ → ℕ → Type 0
JoinedBefore table a b = (1 ≤ a) × (1 ≤ b) × (joined_in table (a - 1) (b - 1) ≡ true)

-- a handler of one of the numbers `from` is joined before that of number `to`
abbrev pub Led : List (List Bool) → List ℕ → ℕ → Type 0
Led table from to = Any (λ a. JoinedBefore table a to) from

-- `next` are the numbers, of 1 to 64, of the handlers that one of the numbers `from` is joined before
pub record Follows (table : List (List Bool)) (from next : List ℕ) : Type 0 where
  pub sound : (b : ℕ) → Has next b → Led table from b
  pub full : (b : ℕ) → b ≤ 64 → Led table from b → Has next b

-- the numbers are one, or a chain of joins leads from the handler of number `from` to that of number `to`
abbrev pub Reaches : List (List Bool) → ℕ → ℕ → Type 0
Reaches table from to = (from ≡ to) ⊎ Chain (joined_in table) (from - 1) (to - 1)
