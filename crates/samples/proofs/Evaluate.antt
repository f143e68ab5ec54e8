-- The verdict on a plan, by computation alone: every question of the model as a test.
use Rattle.std.proofs.Common.{ℕ, zero, suc, pred, ◌+◌, ◌-◌, Bool, true, false, cond, not, ◌&&◌, ◌||◌, List, [], ◌∷◌, map, length}
use Rattle.std.specs.Prelude.{◌/◌, ◌%◌, Some, None, Option, nat_lt, nat_le, ◌==◌, slice_index_or}
use Rattle.std.specs.List.{range_with_len, list_any, list_all}
use Rattle.std.specs.Ordering.{nat_cmp}
use Rattle.policy.specs.declared.codes.Code.{Code}
use Rattle.policy.specs.declared.codes.Code.TheVariants.{FixedPriority, RateMonotonic, EarliestDeadline}
use Rattle.policy.specs.Deadlines.{distance}
use Rattle.policy.specs.Meanings.{by_rank}
use Rattle.plan.specs.declared.handlers.Handler.{Handler}
use Rattle.plan.specs.Contents.{Contents, count, at, round, settling}
use Rattle.model.specs.declared.verdicts.Rows.TheVariants.{Working, Marks}
use Rattle.model.specs.declared.verdicts.Verdict.{Verdict}
use Rattle.model.specs.declared.verdicts.Verdict.TheVariants.{Kept, Missed, RowsShort}
use Rattle.model.specs.Units.{State, left, zeros}
use Rattle.model.specs.Runs.{mark}
use Rattle.model.proofs.Lists.{flat, products}
use Rattle.model.proofs.Made.{made}

-- ---- lists

abbrev pub same : List ℕ → List ℕ → Bool
same [] [] = true
same [] (y ∷ l) = false
same (x ∷ k) [] = false
same (x ∷ k) (y ∷ l) = x == y && same k l

abbrev pub member : State → List State → Bool
member s l = list_any (same s) l

abbrev pub put : State → List State → List State
put s l = cond (member s l) l (s ∷ l)

abbrev pub thin : List State → List State
thin [] = []
thin (s ∷ l) = put s (thin l)

-- whether the test holds of every number below n
abbrev pub below : ℕ → (ℕ → Bool) → Bool
below zero f = true
below (suc n) f = f n && below n f

abbrev pub or_least : Option ℕ → ℕ → Bool → Option ℕ
or_least (Some i) n b = Some i
or_least None n true = Some n
or_least None n false = None

-- the least number below n of which the test holds
abbrev pub lowest : (ℕ → Bool) → ℕ → Option ℕ
lowest f zero = None
lowest f (suc n) = or_least (lowest f n) n (f n)

-- ---- a unit

-- who goes first at a time, of two places on one core
abbrev pub Asks : Type 0
Asks = ℕ → ℕ → ℕ → Bool

abbrev pub first_by : Code → Handler → Handler → ℕ → ℕ → ℕ → Bool
first_by FixedPriority a b t i j = by_rank (nat_cmp (suc i) (suc j)) (suc i) (suc j)
first_by RateMonotonic a b t i j = by_rank (nat_cmp a.period b.period) (suc i) (suc j)
first_by EarliestDeadline a b t i j = by_rank (nat_cmp (distance a.period a.offset t) (distance b.period b.offset t)) (suc i) (suc j)

abbrev pub asked : Contents → List Code → Asks
asked p codes t i j = first_by (slice_index_or codes ((at p i).core - 1) FixedPriority) (at p i) (at p j) t i j

abbrev pub divides : ℕ → ℕ → Bool
divides d n = n % d == 0

module _ (p : Contents) where
  abbrev pub starts : ℕ → ℕ → Bool
  starts t i = nat_le (at p i).offset t && divides (at p i).period (t - (at p i).offset)

  abbrev pub times : ℕ → List ℕ
  times i = range_with_len (at p i).shortest (suc (at p i).longest - (at p i).shortest)

  abbrev pub choices : ℕ → State → ℕ → List ℕ
  choices t s i = cond (starts t i) (times i) (left s i ∷ [])

  abbrev pub begun : ℕ → State → List State
  begun t s = products (map (choices t s) (range_with_len 0 (count p)))

  abbrev pub ready : State → ℕ → Bool
  ready u i = nat_lt 0 (left u i) && below (count p) (λ a. not (p.joined a i) || left u a == 0)

  abbrev pub late : ℕ → State → ℕ → Bool
  late t s i = nat_le ((at p i).offset + (at p i).period) t && (divides (at p i).period (t - (at p i).offset) && nat_lt 0 (left s i))

  -- which mark time it is
  abbrev pub mark_at : ℕ → Option ℕ
  mark_at t = cond (nat_le (settling p) t && divides (round p) (t - settling p)) (Some ((t - settling p) / round p)) None

  module _ (first : Asks) where
    abbrev pub runs : ℕ → State → ℕ → Bool
    runs t u i =
        ready u i
        && below (count p) (λ j. j == i || (not ((at p j).core == (at p i).core) || (not (ready u j) || first t i j)))

    abbrev pub kept_left : ℕ → State → ℕ → ℕ
    kept_left t u i = cond (runs t u i) (pred (left u i)) (left u i)

    abbrev pub served : ℕ → State → State
    served t u = made (count p) (kept_left t u)

    abbrev pub nexts : ℕ → State → List State
    nexts t s = map (served t) (begun t s)

    abbrev pub states : ℕ → List State
    states zero = zeros p ∷ []
    states (suc t) = thin (flat (nexts t) (states t))

    -- ---- the four tests

    abbrev pub misses : ℕ → ℕ → Bool
    misses t i = list_any (λ s. late t s i) (states t)

    abbrev pub marks : ℕ → List State
    marks k = thin (flat (λ j. states (mark p j)) (range_with_len 0 (suc k)))

    abbrev pub closes : ℕ → Bool
    closes k = nat_le 1 k && list_all (λ s. member s (marks (k - 1))) (states (mark p k))

    module _ (w m t : ℕ) where
      abbrev pub if_held : Bool → Option Verdict
      if_held true = Some (RowsShort Marks t)
      if_held false = None

      abbrev pub if_closed : ℕ → Bool → Option Verdict
      if_closed k true = Some (Kept k (length (marks (k - 1))))
      if_closed k false = if_held (nat_lt m (length (marks k)))

      abbrev pub if_mark : Option ℕ → Option Verdict
      if_mark None = None
      if_mark (Some k) = if_closed k (closes k)

      abbrev pub if_late : Option ℕ → Option Verdict
      if_late (Some i) = Some (Missed t (suc i))
      if_late None = if_mark (mark_at t)

      abbrev pub if_short : Bool → Option Verdict
      if_short true = Some (RowsShort Working t)
      if_short false = if_late (lowest (misses t) (count p))

      -- what the time gives, if it gives a verdict
      abbrev pub outcome : Option Verdict
      outcome = if_short (nat_lt w (length (states t)))

abbrev pub or_else : Option Verdict → (Unit {0} → Option Verdict) → Option Verdict
or_else (Some v) f = Some v
or_else None f = f tt

-- the first verdict from the time t on, within so many times
abbrev pub verdict_by : Contents → Asks → ℕ → ℕ → ℕ → ℕ → Option Verdict
verdict_by p first w m zero t = None
verdict_by p first w m (suc n) t = or_else (outcome p first w m t) (λ x. verdict_by p first w m n (suc t))

-- the option holds this verdict
abbrev pub answers : Option Verdict → Verdict → Bool
answers (Some (Kept k c)) (Kept l d) = k == l && c == d
answers (Some (Missed t n)) (Missed e m) = t == e && n == m
answers (Some (RowsShort Working t)) (RowsShort Working e) = t == e
answers (Some (RowsShort Marks t)) (RowsShort Marks e) = t == e
answers x v = false
