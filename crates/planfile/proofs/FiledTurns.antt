-- The joins of a plan have their turns, by the first number and then the second, and each is taken in its turn.
use Rattle.std.proofs.Common.{◌≡◌, ℕ, suc, ◌+◌, ◌-◌, ◌*◌, ◌<◌, ◌≤◌, Bool, true, false, ◌&&◌, List, ◌++◌, sym, refl, ap₂, subst, inl, inr, arith}
use Rattle.std.specs.Prelude.{◌==◌}
use Rattle.std.proofs.lemmas.Bool.{cases_lt, le-leb, eqb-true, eq-eqb, or_cases, or_left, or_right, and_parts, and_from}
use Rattle.plan.specs.declared.handlers.Handler.{Handler}
use Rattle.plan.specs.Joins.{Chain, one, more}
use Rattle.plan.specs.Contents.{Contents, count, at, joins, Sound}
use Rattle.plan.specs.Calls.{with_join, ClosesCircle, MayJoin}

-- whether numbers are joined, by places
pub joins_is : (k : Contents) (a b : ℕ) → 1 ≤ a → 1 ≤ b → joins k a b ≡ k.joined (a - 1) (b - 1)
joins_is k a b la lb = ap₂ (λ s t. s && (t && k.joined (a - 1) (b - 1))) (le-leb 1 a la) (le-leb 1 b lb)

-- a chain of fewer joins
fewer : {new old : ℕ → ℕ → Bool} → ((x y : ℕ) → new x y ≡ true → old x y ≡ true) → {x y : ℕ} → Chain new x y → Chain old x y
fewer all (one {a} {b} j) = one (all a b j)
fewer all (more {a} {b} j c) = more (all a b j) (fewer all c)

-- two tests that hold together are one
pub both_or_none : (s t : Bool) → (s ≡ true → t ≡ true) → (t ≡ true → s ≡ true) → s ≡ t
both_or_none true t f g = sym (f refl)
both_or_none false true f g = g refl
both_or_none false false f g = refl

-- the joins in the order of a file
abbrev pub turn : ℕ → ℕ → ℕ
turn a b = 64 * a + b

-- what comes by turns may wait for a later turn, and takes a join in its turn from the text of it
pub record TakesJoins (text_of : ℕ → ℕ → List ℕ) (Come : ℕ → Contents → List ℕ → Type 0) : Type 0 where
  pub waits : (m n : ℕ) (l : Contents) (left : List ℕ) → m ≤ n → Come m l left → Come n l left
  pub takes : (a b : ℕ) (l : Contents) (rest : List ℕ) → (1 ≤ a) × (a ≤ 64) → (1 ≤ b) × (b ≤ 64) → MayJoin l a b
      → Come (turn a b) l (text_of a b ++ rest) → Come (turn a b + 1) (with_join l a b) rest

module _ (k : Contents) (sound : Sound k) where
  -- the plan has the handlers of k and those joins of k whose turn is before m
  pub record Upto (m : ℕ) (l : Contents) : Type 0 where
    pub handlers : l.handlers ≡ k.handlers
    pub only : (x y : ℕ) → l.joined x y ≡ true → (k.joined x y ≡ true) × (turn (suc x) (suc y) < m)
    pub each : (x y : ℕ) → k.joined x y ≡ true → turn (suc x) (suc y) < m → l.joined x y ≡ true

  -- the turn m has come: a plan has the joins before it, and this is left, for whatever takes joins one after another
  pub record Joined (Come : ℕ → Contents → List ℕ → Type 0) (m : ℕ) (left : List ℕ) : Type 0 where
    pub contents : Contents
    pub now : Come m contents left
    pub upto : Upto m contents

  -- handlers of a plan have numbers up to 64
  pub low : (x y : ℕ) → k.joined x y ≡ true → (suc x ≤ count k) × (suc y ≤ count k) × (count k ≤ 64)
  low x y j = let q = sound.inside x y j in (q.0, q.1, sound.few)

  -- no join has its turn from m on and before n
  abbrev pub NoTurn : ℕ → ℕ → Type 0
  NoTurn m n = (x y : ℕ) → k.joined x y ≡ true → m ≤ turn (suc x) (suc y) → n ≤ turn (suc x) (suc y)

  skip : (m n : ℕ) (l : Contents) → m ≤ n → NoTurn m n → Upto m l → Upto n l
  skip m n l le none u = record {
    handlers = u.handlers;
    only = λ x y j. let q = u.only x y j in (q.0, omega (arith, q.1, le));
    each = λ x y j lt. elim (cases_lt (turn (suc x) (suc y)) m) [ inl e ↦ u.each x y j e | inr g ↦ absurd (omega (arith, none x y j g, lt)) ];
  }

  module _ (text_of : ℕ → ℕ → List ℕ) (Come : ℕ → Contents → List ℕ → Type 0) (taking : TakesJoins text_of Come) where
    -- such turns pass by
    pub skipped : (m n : ℕ) (left : List ℕ) → m ≤ n → NoTurn m n → Joined Come m left → Joined Come n left
    skipped m n left le none p = record {
      contents = p.contents;
      now = taking.waits m n p.contents left le p.now;
      upto = skip m n p.contents le none p.upto;
    }

  -- only the numbers a and b have their turn
  pub same_turn : (a b x y : ℕ) → 1 ≤ a → 1 ≤ b → b ≤ 64 → k.joined x y ≡ true → turn (suc x) (suc y) ≡ turn a b → (x ≡ a - 1) × (y ≡ b - 1)
  same_turn a b x y la lb high j e = let q = low x y j in (omega (arith, la, lb, high, e, q.1, q.2), omega (arith, la, lb, high, e, q.1, q.2))

  module _ (a b : ℕ) (la : 1 ≤ a) (lb : 1 ≤ b) (high : b ≤ 64) (j : k.joined (a - 1) (b - 1) ≡ true) where
    module _ (l : Contents) (u : Upto (turn a b) l) where
      -- a field that joined handlers have alike
      alike : (f : Handler → ℕ) → f (at k (a - 1)) ≡ f (at k (b - 1)) → f (at l (a - 1)) ≡ f (at l (b - 1))
      alike f e = rw u.handlers e

      may : MayJoin l a b
      may =
          let q = low (a - 1) (b - 1) j in
          let n : count l ≡ count k = rw u.handlers refl in
          record {
            known_a = (la, omega (arith, la, q.0, n));
            known_b = (lb, omega (arith, lb, q.1, n));
            periods = alike (λ h. h.period) (sound.periods (a - 1) (b - 1) j);
            offsets = alike (λ h. h.offset) (sound.offsets (a - 1) (b - 1) j);
            straight = straight;
          }
        where
          straight : ¬ ClosesCircle l a b
          straight (inl e) = sound.no_circle (a - 1) (one (subst (λ c. k.joined (a - 1) (c - 1) ≡ true) (sym e) j))
          straight (inr c) = sound.no_circle (a - 1) (more j (fewer (λ x y i. (u.only x y i).0) c))

      is_new : (x y : ℕ) → (x ≡ a - 1) × (y ≡ b - 1) → (suc x == a && suc y == b) ≡ true
      is_new x y q = and_from (suc x == a) (suc y == b) (eq-eqb (suc x) a (omega (arith, q.0, la))) (eq-eqb (suc y) b (omega (arith, q.1, lb)))

      entered : Upto (turn a b + 1) (with_join l a b)
      entered = record { handlers = u.handlers; only = only; each = each }
        where
          only : (x y : ℕ) → (with_join l a b).joined x y ≡ true → (k.joined x y ≡ true) × (turn (suc x) (suc y) < turn a b + 1)
          only x y i =
              elim (or_cases (l.joined x y) (suc x == a && suc y == b) i) [
                | inl h ↦ (let q = u.only x y h in (q.0, omega (arith, q.1)))
                | inr h ↦
                    (let q = and_parts (suc x == a) (suc y == b) h in
                    let ex : suc x ≡ a = eqb-true (suc x) a q.0 in
                    let ey : suc y ≡ b = eqb-true (suc y) b q.1 in
                    let px : x ≡ a - 1 = omega (arith, ex) in
                    let py : y ≡ b - 1 = omega (arith, ey) in
                    (rw (px, py) j, omega (arith, ex, ey)))
              ]

          each : (x y : ℕ) → k.joined x y ≡ true → turn (suc x) (suc y) < turn a b + 1 → (with_join l a b).joined x y ≡ true
          each x y i lt =
              elim (cases_lt (turn (suc x) (suc y)) (turn a b)) [
                | inl e ↦ or_left (l.joined x y) (suc x == a && suc y == b) (u.each x y i e)
                | inr g ↦ or_right (l.joined x y) (suc x == a && suc y == b) (is_new x y (same_turn a b x y la lb high i (omega (arith, lt, g))))
              ]

    -- the join whose turn it is enters
    pub joined_read : (text_of : ℕ → ℕ → List ℕ) (Come : ℕ → Contents → List ℕ → Type 0) → TakesJoins text_of Come → (rest : List ℕ)
        → Joined Come (turn a b) (text_of a b ++ rest) → Joined Come (turn a b + 1) rest
    joined_read text_of Come taking rest p =
        let q = low (a - 1) (b - 1) j in
        record {
          contents = with_join p.contents a b;
          now = taking.takes a b p.contents rest (la, omega (arith, la, q.0, q.2)) (lb, high) (may p.contents p.upto) p.now;
          upto = entered p.contents p.upto;
        }
