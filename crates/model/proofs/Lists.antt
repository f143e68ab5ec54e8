-- What stands in a list: in one made from another, in one from each of several, and each once.
use Rattle.std.proofs.Common.{◌≡◌, ℕ, zero, suc, ◌+◌, ◌-◌, ◌<◌, ◌≤◌, ◌⊎◌, ◌↔◌, List, [], ◌∷◌, ◌++◌, map, length, get_or, sym, refl, ap, ◌∙◌, subst, inl, inr, add-zero, arith}
use mathlib.Core.List.{List-discrete}
use native.Mathlib.Decide.{ℕ_discrete}
use Rattle.std.specs.List.{range_with_len, Contains as Has}
use Rattle.std.proofs.lemmas.List.{get_or_default}
use Rattle.std.proofs.lemmas.List.FromFn.{length-range_with_len, get_or-range_with_len}
use Rattle.std.proofs.lemmas.List.Elements.{Contains-append_left, Contains-append_right, Contains-append_cases}
use Rattle.gather.specs.Levels.{Once}
use Rattle.gather.proofs.Counting.{has_here, has_there, has_cases}

module _ {X : Type 0} where
  pub has_none : (x : X) → Has [] x → ⊥
  has_none x h = omega (arith, h.1)

  pub has_only : (x y : X) → Has (x ∷ []) y → x ≡ y
  has_only x y h = elim (has_cases x y [] h) [ inl e ↦ e | inr n ↦ absurd (has_none y n) ]

  pub once_none : Once {A = X} []
  once_none i j d lt end e = omega arith

  pub once_cons : (x : X) (xs : List X) → (Has xs x → ⊥) → Once xs → Once (x ∷ xs)
  once_cons x xs lacks o i zero d lt end e = absurd (omega arith)
  once_cons x xs lacks o zero (suc j) d lt end e = let l : j < length xs = omega arith in lacks (j, l, get_or_default xs j x d l ∙ sym e)
  once_cons x xs lacks o (suc i) (suc j) d lt end e = o i j d (omega arith) (omega arith) e

  -- a test of each element: it holds of all, or fails at one
  abbrev pub AllOrOne : (X → Type 0) → List X → Type 0
  AllOrOne P l = ((x : X) → Has l x → P x) ⊎ ((x : X) × Has l x × ¬ P x)

  pub all_or_one : (P : X → Type 0) → ((x : X) → Dec (P x)) → (l : List X) → AllOrOne P l
  all_or_one P d [] = inl (λ x h. absurd (has_none x h))
  all_or_one P d (y ∷ l) = go (d y) (all_or_one P d l)
    where
      go : Dec (P y) → AllOrOne P l → AllOrOne P (y ∷ l)
      go (no n) b = inr (y, has_here y l, n)
      go (yes p) (inr (x, h, n)) = inr (x, has_there y x l h, n)
      go (yes p) (inl f) = inl (λ x h. elim (has_cases y x l h) [ inl e ↦ subst P e p | inr k ↦ f x k ])

module _ {X Y : Type 0} where
  pub has_map : (f : X → Y) (x : X) (l : List X) → Has l x → Has (map f l) (f x)
  has_map f x [] h = absurd (has_none x h)
  has_map f x (y ∷ l) h =
      elim (has_cases y x l h) [
        | inl e ↦ subst (Has (f y ∷ map f l)) (ap f e) (has_here (f y) (map f l))
        | inr k ↦ has_there (f y) (f x) (map f l) (has_map f x l k)
      ]

  pub has_map_cases : (f : X → Y) (y : Y) (l : List X) → Has (map f l) y → (x : X) × Has l x × (f x ≡ y)
  has_map_cases f y [] h = absurd (has_none y h)
  has_map_cases f y (x ∷ l) h =
      elim (has_cases (f x) y (map f l) h) [
        | inl e ↦ (x, has_here x l, e)
        | inr k ↦ (let r = has_map_cases f y l k in (r.0, has_there x r.0 l r.1, r.2))
      ]

  abbrev pub flat : (X → List Y) → List X → List Y
  flat f [] = []
  flat f (x ∷ l) = f x ++ flat f l

  pub has_flat : (f : X → List Y) (x : X) (y : Y) (l : List X) → Has l x → Has (f x) y → Has (flat f l) y
  has_flat f x y [] h g = absurd (has_none x h)
  has_flat f x y (z ∷ l) h g =
      elim (has_cases z x l h) [
        | inl e ↦ Contains-append_left (f z) (flat f l) y (subst (λ (a : X). Has (f a) y) (sym e) g)
        | inr k ↦ Contains-append_right (f z) (flat f l) y (has_flat f x y l k g)
      ]

  pub has_flat_cases : (f : X → List Y) (y : Y) (l : List X) → Has (flat f l) y → (x : X) × Has l x × Has (f x) y
  has_flat_cases f y [] h = absurd (has_none y h)
  has_flat_cases f y (z ∷ l) h =
      elim (Contains-append_cases (f z) (flat f l) y h) [
        | inl a ↦ (z, has_here z l, a)
        | inr b ↦ (let r = has_flat_cases f y l b in (r.0, has_there z r.0 l r.1, r.2))
      ]

-- ---- numbers in a row

pub has_counting : (a n x : ℕ) → a ≤ x → x < a + n → Has (range_with_len a n) x
has_counting a n x l h =
    let k : x - a < n = omega arith in
    (x - a, omega (arith, length-range_with_len a n), get_or-range_with_len a n (x - a) x k ∙ (let e : a + (x - a) ≡ x = omega arith in e))

pub counting_has : (a n x : ℕ) → Has (range_with_len a n) x → (a ≤ x) × (x < a + n)
counting_has a n x (k, h, e) =
    let l : k < n = omega (arith, length-range_with_len a n) in
    let is : a + k ≡ x = sym (get_or-range_with_len a n k x l) ∙ e in
    (omega arith, omega arith)

-- ---- one from each of several lists

abbrev pub products : List (List ℕ) → List (List ℕ)
products [] = [] ∷ []
products (c ∷ cs) = flat (λ x. map (λ r. x ∷ r) (products cs)) c

-- each number of `u` stands in the list at its place
abbrev pub Picks : List ℕ → List (List ℕ) → Type 0
Picks [] [] = Unit {0}
Picks [] (c ∷ cs) = ⊥
Picks (x ∷ u) [] = ⊥
Picks (x ∷ u) (c ∷ cs) = Has c x × Picks u cs

pub has_products : (u : List ℕ) (cs : List (List ℕ)) → Picks u cs → Has (products cs) u
has_products [] [] e = has_here [] []
has_products [] (c ∷ cs) e = absurd e
has_products (x ∷ u) [] e = absurd e
has_products (x ∷ u) (c ∷ cs) e =
    has_flat (λ y. map (λ r. y ∷ r) (products cs)) x (x ∷ u) c e.0
    (has_map (λ r. x ∷ r) u (products cs) (has_products u cs e.1))

pub products_has : (u : List ℕ) (cs : List (List ℕ)) → Has (products cs) u → Picks u cs
products_has u [] h = subst (λ (x : List ℕ). Picks x []) (has_only [] u h) tt
products_has u (c ∷ cs) h =
    let q = has_flat_cases (λ y. map (λ r. y ∷ r) (products cs)) u c h in
    let r = has_map_cases (λ r. q.0 ∷ r) u (products cs) q.2 in
    subst (λ (x : List ℕ). Picks x (c ∷ cs)) r.2 (q.1, products_has r.0 cs r.1)

pub each_from : (ch : ℕ → List ℕ) (a n : ℕ) (u : List ℕ) → length u ≡ n → ((i : ℕ) → i < n → Has (ch (a + i)) (get_or u i 0))
    → Picks u (map ch (range_with_len a n))
each_from ch a zero [] e f = tt
each_from ch a zero (x ∷ u) e f = absurd (omega arith)
each_from ch a (suc n) [] e f = absurd (omega arith)
each_from ch a (suc n) (x ∷ u) e f = (
  subst (λ (k : ℕ). Has (ch k) x) (add-zero a) (f 0 (omega arith)),
  each_from ch (a + 1) n u (omega arith)
      (λ i h. let q : a + suc i ≡ a + 1 + i = omega arith in subst (λ (k : ℕ). Has (ch k) (get_or u i 0)) q (f (suc i) (omega arith))),
)

pub from_each : (ch : ℕ → List ℕ) (a n : ℕ) (u : List ℕ) → Picks u (map ch (range_with_len a n))
    → (length u ≡ n) × ((i : ℕ) → i < n → Has (ch (a + i)) (get_or u i 0))
from_each ch a zero [] e = (refl, λ i h. absurd (omega arith))
from_each ch a zero (x ∷ u) e = absurd e
from_each ch a (suc n) [] e = absurd e
from_each ch a (suc n) (x ∷ u) e = (ap suc (from_each ch (a + 1) n u e.1).0, at_place (from_each ch (a + 1) n u e.1).1)
  where
    at_place : ((i : ℕ) → i < n → Has (ch (a + 1 + i)) (get_or u i 0)) → (i : ℕ) → i < suc n → Has (ch (a + i)) (get_or (x ∷ u) i 0)
    at_place f zero h = subst (λ (k : ℕ). Has (ch k) x) (sym (add-zero a)) e.0
    at_place f (suc i) h =
        let q : a + 1 + i ≡ a + suc i = omega arith in
        subst (λ (k : ℕ). Has (ch k) (get_or u i 0)) q (f i (omega arith))

-- ---- each once

pub dec_has : (l : List (List ℕ)) (s : List ℕ) → Dec (Has l s)
dec_has [] s = no (has_none s)
dec_has (x ∷ l) s = go (List-discrete ℕ_discrete x s) (dec_has l s)
  where
    go : Dec (x ≡ s) → Dec (Has l s) → Dec (Has (x ∷ l) s)
    go (yes e) b = yes (subst (Has (x ∷ l)) e (has_here x l))
    go (no e) (yes h) = yes (has_there x s l h)
    go (no e) (no h) = no (λ g. elim (has_cases x s l g) [ inl a ↦ e a | inr b ↦ h b ])

-- a list of the same elements, each once
abbrev pub Thin : List (List ℕ) → Type 0
Thin l = (k : List (List ℕ)) × Once k × ((s : List ℕ) → Has l s ↔ Has k s)

pub thinned : (l : List (List ℕ)) → Thin l
thinned [] = ([], once_none, λ s. (λ h. h, λ h. h))
thinned (x ∷ l) = go (thinned l)
  where
    go : Thin l → Thin (x ∷ l)
    go (k, o, f) = pick (dec_has k x)
      where
        pick : Dec (Has k x) → Thin (x ∷ l)
        pick (yes h) = (
          k,
          o,
          λ s. (
            λ g. elim (has_cases x s l g) [ inl e ↦ subst (Has k) e h | inr b ↦ (f s).0 b ],
            λ g. has_there x s l ((f s).1 g),
          ),
        )
        pick (no n) = (
          x ∷ k,
          once_cons x k n o,
          λ s. (
            λ g. elim (has_cases x s l g) [ inl e ↦ subst (Has (x ∷ k)) e (has_here x k) | inr b ↦ has_there x s k ((f s).0 b) ],
            λ g. elim (has_cases x s k g) [ inl e ↦ subst (Has (x ∷ l)) e (has_here x l) | inr b ↦ has_there x s l ((f s).1 b) ],
          ),
        )
