-- What a test decides, and what tests on lists decide.
use Rattle.std.proofs.Common.{◌≡◌, ℕ, zero, suc, ◌<◌, ◌≤◌, ◌%◌, Bool, true, false, cond, not, ◌&&◌, ◌||◌, ◌↔◌, List, [], ◌∷◌, length, sym, refl, ap, ◌∙◌, subst, ap₂, inl, inr, arith}
use Rattle.std.specs.Prelude.{Some, None, Option, Decides, nat_lt, nat_le, ◌==◌}
use Rattle.std.specs.Int.{◌∣◌}
use Rattle.std.specs.List.{list_any, list_all, Contains as Has}
use Rattle.std.proofs.Math.Nat.{mod-eq-zero_of_dvd, dvd_of_mod-eq-zero}
use Rattle.std.proofs.lemmas.Bool.{true≢false, ltb-true, lt-ltb, leb-true, le-leb, eqb-true, eq-eqb, and_parts, and_from, or_cases, or_left, or_right, cases_Bool, not-true, not_from_false, false_from_ne_true}
use native.Mathlib.Decide.{ℕ_discrete}
use Rattle.gather.specs.Levels.{Once}
use Rattle.gather.proofs.Counting.{has_here, has_there, has_cases}
use Rattle.model.specs.Units.{State}
use Rattle.model.proofs.Lists.{has_none, once_none, once_cons}
use Rattle.samples.proofs.Evaluate.{same, member, put, thin, below, or_least, lowest, divides}

-- ---- numbers

pub lt_decides : (a b : ℕ) → Decides (nat_lt a b) (a < b)
lt_decides a b = (ltb-true a b, lt-ltb a b)

pub le_decides : (a b : ℕ) → Decides (nat_le a b) (a ≤ b)
le_decides a b = (leb-true a b, le-leb a b)

pub eq_decides : (a b : ℕ) → Decides (a == b) (a ≡ b)
eq_decides a b = (eqb-true a b, eq-eqb a b)

pub divides_decides : (d n : ℕ) → Decides (divides d n) (d ∣ n)
divides_decides d n = (
  λ e. dvd_of_mod-eq-zero d (eqb-true (n % d) 0 e),
  λ h. eq-eqb (n % d) 0 (mod-eq-zero_of_dvd d h),
)

-- ---- joined tests

pub true_decides : (b : Bool) → Decides b (b ≡ true)
true_decides b = (λ e. e, λ e. e)

pub iff_decides : {a : Bool} {P Q : Type 0} → (P ↔ Q) → Decides a P → Decides a Q
iff_decides f d = (λ e. f.0 (d.0 e), λ q. d.1 (f.1 q))

pub and_decides : (a b : Bool) {P Q : Type 0} → Decides a P → Decides b Q → Decides (a && b) (P × Q)
and_decides a b x y = (
  λ e. let r = and_parts a b e in (x.0 r.0, y.0 r.1),
  λ q. and_from a b (x.1 q.0) (y.1 q.1),
)

pub unless : (a b : Bool) {P Q : Type 0} → Decides a P → Decides b Q → Decides (a || b) (¬ P → Q)
unless a b x y = (
  λ e n. elim (or_cases a b e) [ inl h ↦ absurd (n (x.0 h)) | inr h ↦ y.0 h ],
  λ f. elim (cases_Bool a) [ inl h ↦ or_left a b h | inr h ↦ or_right a b (y.1 (f (λ p. true≢false (sym (x.1 p) ∙ h)))) ],
)

pub arrow_decides : (a b : Bool) {P Q : Type 0} → Decides a P → Decides b Q → Decides (not a || b) (P → Q)
arrow_decides a b x y = (
  λ e p. elim (or_cases (not a) b e) [ inl h ↦ absurd (true≢false (sym (x.1 p) ∙ not-true a h)) | inr h ↦ y.0 h ],
  λ f. elim (cases_Bool a) [ inl h ↦ or_right (not a) b (y.1 (f (x.0 h))) | inr h ↦ or_left (not a) b (not_from_false a h) ],
)

pub below_decides : (n : ℕ) (f : ℕ → Bool) (P : ℕ → Type 0) → ((i : ℕ) → i < n → Decides (f i) (P i))
    → Decides (below n f) ((i : ℕ) → i < n → P i)
below_decides zero f P d = (λ e i h. absurd (omega arith), λ g. refl)
below_decides (suc n) f P d = go (below_decides n f P (λ i h. d i (omega arith)))
  where
    go : Decides (below n f) ((i : ℕ) → i < n → P i) → Decides (f n && below n f) ((i : ℕ) → i < suc n → P i)
    go ih = (
      λ e i h. let r = and_parts (f n) (below n f) e in at_or_below r.0 r.1 i h (ℕ_discrete i n),
      λ g. and_from (f n) (below n f) ((d n (omega arith)).1 (g n (omega arith))) (ih.1 (λ i h. g i (omega arith))),
    )
      where
        at_or_below : f n ≡ true → below n f ≡ true → (i : ℕ) → i < suc n → Dec (i ≡ n) → P i
        at_or_below a b i h (yes e) = subst P (sym e) ((d n (omega arith)).0 a)
        at_or_below a b i h (no e) = ih.0 b i (omega arith)

-- what fails where the test does
pub fails : {a : Bool} {P : Type 0} → Decides a P → a ≡ false → ¬ P
fails d e p = true≢false (sym (d.1 p) ∙ e)

pub fails_where : (a : Bool) {P : Type 0} → Decides a P → ¬ P → a ≡ false
fails_where a d n = false_from_ne_true a (λ e. n (d.0 e))

-- ---- lists

module _ {X : Type 0} (f : X → Bool) (P : X → Type 0) (d : (x : X) → Decides (f x) (P x)) where
  pub all_decides : (l : List X) → Decides (list_all f l) ((x : X) → Has l x → P x)
  all_decides [] = (λ e x h. absurd (has_none x h), λ g. refl)
  all_decides (y ∷ l) = (
    λ e x h. let r = and_parts (f y) (list_all f l) e in
        elim (has_cases y x l h) [ inl q ↦ subst P q ((d y).0 r.0) | inr k ↦ (all_decides l).0 r.1 x k ],
    λ g. and_from (f y) (list_all f l) ((d y).1 (g y (has_here y l))) ((all_decides l).1 (λ x h. g x (has_there y x l h))),
  )

  pub any_decides : (l : List X) → Decides (list_any f l) ((x : X) × Has l x × P x)
  any_decides [] = (λ e. absurd (true≢false (sym e)), λ g. absurd (has_none g.0 g.1))
  any_decides (y ∷ l) = (
    λ e. elim (or_cases (f y) (list_any f l) e) [
      | inl h ↦ (y, has_here y l, (d y).0 h)
      | inr h ↦ (let r = (any_decides l).0 h in (r.0, has_there y r.0 l r.1, r.2))
    ],
    λ g. elim (has_cases y g.0 l g.1) [
      | inl q ↦ or_left (f y) (list_any f l) ((d y).1 (subst P (sym q) g.2))
      | inr k ↦ or_right (f y) (list_any f l) ((any_decides l).1 (g.0, k, g.2))
    ],
  )

abbrev head_of : ℕ → List ℕ → ℕ
head_of d [] = d
head_of d (x ∷ l) = x

abbrev tail_of : List ℕ → List ℕ
tail_of [] = []
tail_of (a ∷ m) = m

pub same_decides : (k l : List ℕ) → Decides (same k l) (k ≡ l)
same_decides [] [] = (λ e. refl, λ e. refl)
same_decides [] (y ∷ l) = (λ e. absurd (true≢false (sym e)), λ e. absurd (omega (arith, ap length e)))
same_decides (x ∷ k) [] = (λ e. absurd (true≢false (sym e)), λ e. absurd (omega (arith, ap length e)))
same_decides (x ∷ k) (y ∷ l) = (
  λ e. let r = and_parts (x == y) (same k l) e in ap₂ (λ a b. a ∷ b) (eqb-true x y r.0) ((same_decides k l).0 r.1),
  λ e. and_from (x == y) (same k l) (eq-eqb x y (ap (head_of 0) e)) ((same_decides k l).1 (ap tail_of e)),
)

pub member_decides : (s : State) (l : List State) → Decides (member s l) (Has l s)
member_decides s l =
    iff_decides
    (λ r. subst (Has l) (sym r.2) r.1, λ h. (s, h, refl))
    (any_decides (same s) (λ x. s ≡ x) (same_decides s) l)

-- each once, and no other
pub record Thins (l k : List State) : Type 0 where
  pub once : Once k
  pub just : (s : State) → Has l s ↔ Has k s

put_thins : (x : State) (l k : List State) → Thins l k → Thins (x ∷ l) (put x k)
put_thins x l k i = go (member x k) refl
  where
    go : (b : Bool) → member x k ≡ b → Thins (x ∷ l) (cond b k (x ∷ k))
    go true e =
        record {
          once = i.once;
          just = λ s. (
            λ g. elim (has_cases x s l g) [ inl q ↦ subst (Has k) q ((member_decides x k).0 e) | inr b ↦ (i.just s).0 b ],
            λ g. has_there x s l ((i.just s).1 g),
          );
        }
    go false e =
        record {
          once = once_cons x k (fails (member_decides x k) e) i.once;
          just = λ s. (
            λ g. elim (has_cases x s l g) [ inl q ↦ subst (Has (x ∷ k)) q (has_here x k) | inr b ↦ has_there x s k ((i.just s).0 b) ],
            λ g. elim (has_cases x s k g) [ inl q ↦ subst (Has (x ∷ l)) q (has_here x l) | inr b ↦ has_there x s l ((i.just s).1 b) ],
          );
        }

pub thin_thins : (l : List State) → Thins l (thin l)
thin_thins [] = record { once = once_none; just = λ s. (λ h. h, λ h. h) }
thin_thins (x ∷ l) = put_thins x l (thin l) (thin_thins l)

-- ---- the least number

abbrev pub IsLowest : (ℕ → Bool) → ℕ → Option ℕ → Type 0
IsLowest f n None = (i : ℕ) → i < n → f i ≡ false
IsLowest f n (Some i) = (f i ≡ true) × (i < n) × ((j : ℕ) → j < i → f j ≡ false)

pub lowest_is : (f : ℕ → Bool) (n : ℕ) → IsLowest f n (lowest f n)
lowest_is f zero = λ i h. absurd (omega arith)
lowest_is f (suc n) = go (lowest f n) (f n) (lowest_is f n) refl
  where
    go : (o : Option ℕ) (b : Bool) → IsLowest f n o → f n ≡ b → IsLowest f (suc n) (or_least o n b)
    go (Some i) b r e = (r.0, (let l : i < n = r.1 in omega arith), r.2)
    go None true r e = (e, omega arith, r)
    go None false r e = λ i h. below_or i h (ℕ_discrete i n)
      where
        below_or : (i : ℕ) → i < suc n → Dec (i ≡ n) → f i ≡ false
        below_or i h (yes q) = ap f q ∙ e
        below_or i h (no q) = r i (omega arith)
