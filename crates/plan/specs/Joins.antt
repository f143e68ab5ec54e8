-- Joins: a table of which handler goes before which. Handlers go by their places, from 0; a handler's number is one more.
use Rattle.std.specs.Prelude.{◌≡◌, ℕ, ◌<◌, Bool, true, false, List, [], length, get_or, slice_index_or, slice_set}
use Rattle.plan.specs.declared.handlers.Handler.{Handler}
use Rattle.plan.specs.Rows.{blank}

-- one or more joins lead from a to b
pub data Chain (joined : ℕ → ℕ → Bool) : ℕ → ℕ → Type 0 where
  one : {a b : ℕ} → joined a b ≡ true → Chain joined a b
  more : {a b c : ℕ} → joined a b ≡ true → Chain joined b c → Chain joined a c

-- whether the table joins the handler at the place a before that at the place b
abbrev pub joined_in : List (List Bool) → ℕ → ℕ → Bool
joined_in table a b = slice_index_or (slice_index_or table a []) b false

-- the table with the handler at the place i joined before that at the place j
abbrev pub linked : List (List Bool) → ℕ → ℕ → List (List Bool)
linked table i j = slice_set table i (slice_set (slice_index_or table i []) j true)

-- joined handlers are in the plan
abbrev pub Inside : ℕ → List (List Bool) → Type 0
Inside n table = (a b : ℕ) → joined_in table a b ≡ true → (a < n) × (b < n)

-- and have one period
abbrev pub OnePeriod : List Handler → List (List Bool) → Type 0
OnePeriod hs table = (a b : ℕ) → joined_in table a b ≡ true → (get_or hs a blank).period ≡ (get_or hs b blank).period

-- and one offset
abbrev pub OneOffset : List Handler → List (List Bool) → Type 0
OneOffset hs table = (a b : ℕ) → joined_in table a b ≡ true → (get_or hs a blank).offset ≡ (get_or hs b blank).offset

-- joins run in no circle
abbrev pub NoCircle : (ℕ → ℕ → Bool) → Type 0
NoCircle joined = (a : ℕ) → Chain joined a a → ⊥

-- each row of the table is whole
abbrev pub Wide : List (List Bool) → Type 0
Wide table = (a : ℕ) → a < 64 → length (slice_index_or table a []) ≡ 64
