-- The abstract plan: what a plan holds, whatever its memory looks like.
use Rattle.std.specs.Prelude.{◌≡◌, ℕ, ◌-◌, ◌<◌, ◌≤◌, Bool, true, false, ◌&&◌, List, [], length, get_or, take, nat_le, slice_index_or}
use Rattle.plan.specs.declared.handlers.Handler.{Handler}
use Rattle.policy.specs.declared.candidates.Candidate.{Candidate}
use Rattle.plan.specs.declared.plans.Plan.{Plan}
use Rattle.plan.specs.Rows.{blank, IsInRange, round_of, settling_of, longest_round}
use Rattle.plan.specs.Joins.{joined_in, Chain}

-- the handlers in the order of their numbers, each with its last core, and which is joined before which, by places
pub record Contents : Type 0 where
  pub handlers : List Handler
  pub joined : ℕ → ℕ → Bool

-- what a plan holds
abbrev pub contents : Plan → Contents
contents p = record { handlers = take p.count p.handlers; joined = joined_in p.joins }

-- no handler, and no join
abbrev pub empty : Contents
empty = record { handlers = []; joined = λ a b. false }

-- how many handlers there are
abbrev pub count : Contents → ℕ
count k = length k.handlers

-- the handler at a place
abbrev pub at : Contents → ℕ → Handler
at k i = slice_index_or k.handlers i blank

-- a handler has this number
abbrev pub Known : Contents → ℕ → Type 0
Known k n = (1 ≤ n) × (n ≤ count k)

-- the same as a test
abbrev pub known : Contents → ℕ → Bool
known k n = nat_le 1 n && nat_le n (count k)

-- the round of the handlers
abbrev pub round : Contents → ℕ
round k = round_of k.handlers

-- the settling time of the handlers
abbrev pub settling : Contents → ℕ
settling k = settling_of k.handlers

-- whether the handler of number a is joined before that of number b
abbrev pub joins : Contents → ℕ → ℕ → Bool
joins k a b = nat_le 1 a && (nat_le 1 b && k.joined (a - 1) (b - 1))

-- the candidate is the handler of this number, as a core sees it when it chooses
pub record StandsFor (x : Candidate) (k : Contents) (n : ℕ) : Type 0 where
  pub number : x.number ≡ n
  pub period : x.period ≡ (at k (n - 1)).period
  pub offset : x.offset ≡ (at k (n - 1)).offset

-- the row i of the plan has the handler of this number
pub record Placed (p : Plan) (n i : ℕ) : Type 0 where
  pub inside : i < p.count
  pub is : i ≡ n - 1
  pub row : get_or p.handlers i blank ≡ at (contents p) (n - 1)
  pub range : IsInRange (slice_index_or p.handlers i blank)

-- what is true of the contents of every plan
pub record Sound (k : Contents) : Type 0 where
  pub few : count k ≤ 64
  pub ranges : (i : ℕ) → i < count k → IsInRange (at k i)
  pub short : round k ≤ longest_round
  pub inside : (a b : ℕ) → k.joined a b ≡ true → (a < count k) × (b < count k)
  pub periods : (a b : ℕ) → k.joined a b ≡ true → (at k a).period ≡ (at k b).period
  pub offsets : (a b : ℕ) → k.joined a b ≡ true → (at k a).offset ≡ (at k b).offset
  pub no_circle : (a : ℕ) → Chain k.joined a a → ⊥

-- every plan holds such
abbrev pub AllSound : Type 0
AllSound = (p : Plan) → Sound (contents p)

-- a plan is its contents: two that hold the same are one
abbrev pub ContentsTell : Type 0
ContentsTell = (p q : Plan) → contents p ≡ contents q → p ≡ q
