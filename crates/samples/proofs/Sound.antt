-- A test of the calls of a sample: a plan can hold what they make.
use Rattle.std.proofs.Common.{◌≡◌, ℕ, suc, pred, ◌^◌, ◌<◌, ◌≤◌, Bool, true, ◌&&◌, ◌||◌, ◌⊎◌, List, [], ◌∷◌, fold, sym, ◌∙◌, ap₂, inl, inr, true≢false, arith}
use Rattle.std.specs.Prelude.{Some, None, Option, nat_lt, nat_le, ◌==◌}
use Rattle.std.specs.List.{list_all}
use Rattle.std.proofs.lemmas.Bool.{eqb-true, and_parts, or_cases}
use Rattle.plan.specs.declared.handlers.Handler.{Handler}
use Rattle.plan.specs.Contents.{Contents, Sound, count, at, round, empty}
use Rattle.plan.specs.Joins.{Chain, one, more}
use Rattle.plan.specs.Rows.{FitsWords, IsInRange, longest_round}
use Rattle.samples.specs.declared.Call.{Call}
use Rattle.samples.specs.declared.Call.TheVariants.{Register, Join}
use Rattle.samples.specs.declared.Sample.{Sample}
use Rattle.samples.specs.Plans.{called, plan_of}
use Rattle.samples.proofs.Evaluate.{below}
use Rattle.samples.proofs.Deciding.{lt_decides, le_decides, eq_decides, true_decides, and_decides, below_decides}

-- each join leads from a smaller number to a greater one
abbrev pub Onward : Contents → Type 0
Onward k = (a b : ℕ) → k.joined a b ≡ true → a < b

pub chain_onward : (k : Contents) → Onward k → {a b : ℕ} → Chain k.joined a b → a < b
chain_onward k f {a} {b} (one j) = f a b j
chain_onward k f {a} {b} (more {b = c} j r) = let l : a < c = f a c j in omega (arith, chain_onward k f r)

-- the test holds of the numbers, if the call joins
abbrev pub if_joins : (ℕ → ℕ → Bool) → Option Call → Bool
if_joins f None = true
if_joins f (Some (Register h)) = true
if_joins f (Some (Join a b)) = f a b

-- who is joined was joined before, or by one of the calls
joined_by : (f : ℕ → ℕ → Bool) (calls : List (Option Call)) (k : Contents) (a b : ℕ) → list_all (if_joins f) calls ≡ true
    → (fold called k calls).joined a b ≡ true → (k.joined a b ≡ true) ⊎ (f (suc a) (suc b) ≡ true)
joined_by f [] k a b all j = inl j
joined_by f (None ∷ calls) k a b all j = joined_by f calls k a b all j
joined_by f (Some (Register h) ∷ calls) k a b all j = joined_by f calls (called k (Some (Register h))) a b all j
joined_by f (Some (Join x y) ∷ calls) k a b all j =
    go (joined_by f calls (called k (Some (Join x y))) a b (and_parts (f x y) (list_all (if_joins f) calls) all).1 j)
  where
    go : ((k.joined a b || (suc a == x && suc b == y)) ≡ true) ⊎ (f (suc a) (suc b) ≡ true) → (k.joined a b ≡ true) ⊎ (f (suc a) (suc b) ≡ true)
    go (inr r) = inr r
    go (inl r) =
        elim (or_cases (k.joined a b) (suc a == x && suc b == y) r) [
          | inl h ↦ inl h
          | inr h ↦ (let q = and_parts (suc a == x) (suc b == y) h in
              inr (ap₂ f (eqb-true (suc a) x q.0) (eqb-true (suc b) y q.1) ∙ (and_parts (f x y) (list_all (if_joins f) calls) all).0))
        ]

-- the first number is the smaller, both are in the plan, and of one timing
abbrev pub may_join : Contents → ℕ → ℕ → Bool
may_join p a b =
    nat_lt a b
    && (nat_le b (count p) && ((at p (pred a)).period == (at p (pred b)).period && (at p (pred a)).offset == (at p (pred b)).offset))

abbrev pub fits : Handler → Bool
fits h =
    nat_lt h.period (2 ^ 16)
    && (nat_lt h.offset (2 ^ 16) && (nat_lt h.shortest (2 ^ 16) && nat_lt h.longest (2 ^ 16)))

abbrev pub ranged : Handler → Bool
ranged h =
    nat_le 1 h.period
    && (nat_le 1 h.shortest
    && (nat_le h.shortest h.longest && (nat_le 1 h.core && (nat_le h.core 8 && fits h))))

abbrev pub in_range : Contents → ℕ → Bool
in_range p i = ranged (at p i)

abbrev pub can_be : Sample → Bool
can_be x =
    nat_le (count (plan_of x)) 64
    && (below (count (plan_of x)) (in_range (plan_of x))
    && (nat_le (round (plan_of x)) longest_round && list_all (if_joins (may_join (plan_of x))) x.calls))

pub may_join_so : (p : Contents) (a b : ℕ) → may_join p a b ≡ true
    → (a < b) × ((b ≤ count p) × (((at p (pred a)).period ≡ (at p (pred b)).period) × ((at p (pred a)).offset ≡ (at p (pred b)).offset)))
may_join_so p a b e =
    (and_decides _ _ (lt_decides a b)
    (and_decides _ _ (le_decides b (count p))
    (and_decides _ _ (eq_decides (at p (pred a)).period (at p (pred b)).period) (eq_decides (at p (pred a)).offset (at p (pred b)).offset)))).0 e

fits_so : (h : Handler) → fits h ≡ true → FitsWords h
fits_so h e =
    let r = (and_decides _ _ (lt_decides h.period (2 ^ 16))
    (and_decides _ _ (lt_decides h.offset (2 ^ 16))
    (and_decides _ _ (lt_decides h.shortest (2 ^ 16)) (lt_decides h.longest (2 ^ 16))))).0 e in
    (r.0, r.1.0, r.1.1.0, r.1.1.1)

pub ranged_so : (h : Handler) → ranged h ≡ true → IsInRange h
ranged_so h e =
    let r = (and_decides _ _ (le_decides 1 h.period)
    (and_decides _ _ (le_decides 1 h.shortest)
    (and_decides _ _ (le_decides h.shortest h.longest)
    (and_decides _ _ (le_decides 1 h.core)
    (and_decides _ _ (le_decides h.core 8) (true_decides (fits h))))))).0 e in
    (r.0, r.1.0, r.1.1.0, r.1.1.1.0, r.1.1.1.1.0, fits_so h r.1.1.1.1.1)

module _ (x : Sample) (test : can_be x ≡ true) where
  record Parts : Type 0 where
    few : count (plan_of x) ≤ 64
    ranges : (i : ℕ) → i < count (plan_of x) → in_range (plan_of x) i ≡ true
    short : round (plan_of x) ≤ longest_round
    joins : list_all (if_joins (may_join (plan_of x))) x.calls ≡ true

  parts : Parts
  parts =
      let r = (and_decides _ _ (le_decides (count (plan_of x)) 64)
      (and_decides _ _ (below_decides (count (plan_of x)) (in_range (plan_of x)) (λ i. in_range (plan_of x) i ≡ true) (λ i h. true_decides (in_range (plan_of x) i)))
      (and_decides _ _ (le_decides (round (plan_of x)) longest_round) (true_decides (list_all (if_joins (may_join (plan_of x))) x.calls))))).0 test in
      record { few = r.0; ranges = r.1.0; short = r.1.1.0; joins = r.1.1.1 }

  record Joined (a b : ℕ) : Type 0 where
    onward : a < b
    inside : b < count (plan_of x)
    period : (at (plan_of x) a).period ≡ (at (plan_of x) b).period
    offset : (at (plan_of x) a).offset ≡ (at (plan_of x) b).offset

  joined_so : (a b : ℕ) → (plan_of x).joined a b ≡ true → Joined a b
  joined_so a b j = elim (joined_by (may_join (plan_of x)) x.calls empty a b parts.joins j) [ inl h ↦ absurd (true≢false (sym h)) | inr h ↦ from h ]
    where
      from : may_join (plan_of x) (suc a) (suc b) ≡ true → Joined a b
      from h =
          let r = may_join_so (plan_of x) (suc a) (suc b) h in
          let l : suc a < suc b = r.0 in
          let m : suc b ≤ count (plan_of x) = r.1.0 in
          record { onward = omega arith; inside = omega arith; period = r.1.1.0; offset = r.1.1.1 }

  onward : Onward (plan_of x)
  onward a b j = (joined_so a b j).onward

  -- a plan can hold it
  pub can_be_sound : Sound (plan_of x)
  can_be_sound =
      record {
        few = parts.few;
        ranges = λ i h. ranged_so (at (plan_of x) i) (parts.ranges i h);
        short = parts.short;
        inside = λ a b j. let r = joined_so a b j in (omega (arith, r.onward, r.inside), r.inside);
        periods = λ a b j. (joined_so a b j).period;
        offsets = λ a b j. (joined_so a b j).offset;
        no_circle = λ a c. omega (arith, chain_onward (plan_of x) onward c);
      }
