-- Who is late, found in the rows of a front.
use Rattle.std.proofs.Common.{◌≡◌, ℕ, ◌+◌, ◌-◌, ◌<◌, ◌≤◌, Bool, true, false, List, length, get_or, Some, None, Option, MatchBool, MatchOption, Decides, sym, refl, subst, arith}
use Rattle.std.specs.List.{HoldsAt, AllWithin}
use Rattle.std.proofs.lemmas.Bool.{true≢false}
use Rattle.std.proofs.lemmas.List.{get_or-take}
use Rattle.std.proofs.lemmas.List.Elements.{Contains-get_or}
use Rattle.policy.specs.Laws.{Choice}
use Rattle.plan.specs.Contents.{Contents, Sound, count, Known}
use Rattle.model.specs.Units.{left}
use Rattle.model.specs.Runs.{Late, Misses}
use Rattle.model.specs.declared.states.State.{State}
use Rattle.model.specs.Memory.{times}
use Rattle.checker.specs.Moments.{Calm, Due}
use Rattle.checker.specs.Fronts.{idle, Front, LateInOne, Lowest, WorkingInOne}

-- the handler of this number has time left, in a row
abbrev pub IsWorking : ℕ → State → Type 0
IsWorking n x = (1 ≤ n) × (n ≤ 64) × (0 < get_or x.left (n - 1) 0)

pub working_told : (rows : List State) (n : ℕ) (r : Bool)
    → MatchBool r ((k : ℕ) × (k < length rows) × HoldsAt (IsWorking n) rows k) (AllWithin (λ x. ¬ IsWorking n x) rows 0 (length rows))
    → Decides r (WorkingInOne rows n)
working_told rows n true (k, lt, holds) = let is = holds idle in (λ _. (is.0, is.1, (get_or rows k idle, Contains-get_or rows k idle lt, is.2)), λ _. refl)
working_told rows n false h = (
  λ e. absurd (true≢false (sym e)),
  λ (low, high, (x, has, works)). absurd (h has.0 x (omega arith) has.1 (low, high, subst (λ (s : State). 0 < get_or s.left (n - 1) 0) (sym has.2) works)),
)

-- a row tells of a handler what the state that it holds tells
row_left : (p : Contents) (x : State) (n : ℕ) → Known p n → left (times p x) (n - 1) ≡ get_or x.left (n - 1) 0
row_left p x n k = get_or-take (count p) x.left (n - 1) 0 (omega (arith, k.0, k.1))

module _ (p : Contents) (t : ℕ) (rows : List State) where
  -- of a handler that is due
  pub late_told : Sound p → (n : ℕ) (r : Bool) → Known p n × Due p t (n - 1) → Decides r (WorkingInOne rows n) → Decides r (Known p n × LateInOne p t rows (n - 1))
  late_told ok n r (known, due) told = (
    λ e. (let (x, has, works) = (told.0 e).2 in (known, (x, has, record { known = omega (arith, known.0, known.1); due = due.0; turn = due.1; working = rw (row_left p x n known) works }))),
    λ (k, (x, has, late)). told.1 (known.0, omega (arith, known.1, ok.few), (x, has, rw (row_left p x n known) at late.working)),
  )

  -- where nobody starts, no period ends
  pub calm_late : (units : ℕ) → Calm p t units → 0 < units → Lowest (LateInOne p t rows) None
  calm_late units calm some i (x, has, late) =
      let here : t + 0 ≡ t = omega arith in
      (rw here at (calm 0 some)) i late.known (omega (arith, late.due), late.turn)

  abbrev pub IsLateInOne : ℕ → Type 0
  IsLateInOne n = Known p n × LateInOne p t rows (n - 1)

  pub lowest_found : (end : ℕ) (r : Option ℕ) → end ≡ count p + 1
      → MatchOption r ((k : ℕ) → 1 ≤ k → k < end → ¬ IsLateInOne k) (λ n. (1 ≤ n) × (n < end) × IsLateInOne n × ((k : ℕ) → 1 ≤ k → k < n → ¬ IsLateInOne k))
      → Lowest (LateInOne p t rows) r
  lowest_found end None e f = λ i (x, has, late). f (i + 1) (omega arith) (omega (arith, e, late.known)) ((omega arith, omega (arith, late.known)), (x, has, let q : i + 1 - 1 ≡ i = omega arith in rw q late))
  lowest_found end (Some n) e (low, high, (known, late), f) = (
    n - 1,
    omega (arith, low),
    late,
    λ j l (x, has, y). f (j + 1) (omega arith) (omega (arith, l, low)) ((omega arith, omega (arith, y.known)), (x, has, let q : j + 1 - 1 ≡ j = omega arith in rw q y)),
  )

pub lowest_same : (P Q : ℕ → Type 0) (r : Option ℕ) → ((i : ℕ) → P i → Q i) → ((i : ℕ) → Q i → P i) → Lowest P r → Lowest Q r
lowest_same P Q None to from f = λ i q. f i (from i q)
lowest_same P Q (Some n) to from (i, e, x, f) = (i, e, to i x, λ j l q. f j l (from j q))

module _ (p : Contents) (D : Choice) (t : ℕ) (rows : List State) (f : Front p D t rows) where
  pub late_misses : (i : ℕ) → LateInOne p t rows i → Misses p D t i
  late_misses i (x, has, late) = let r = f.only x has in (r.0, r.1, subst (λ v. Late p t v i) r.2.left late)

  pub misses_late : (i : ℕ) → Misses p D t i → LateInOne p t rows i
  misses_late i (v, at, late) = let r = f.each v at in (r.0, r.1, subst (λ v. Late p t v i) (sym r.2.left) late)
