-- The number of the current period, by arithmetic: before the offset it is 0, and in the period after k whole ones it is k + 1.
use Rattle.std.proofs.Common.{◌≡◌, ℕ, zero, suc, ◌+◌, ◌-◌, ◌*◌, ◌/◌, ◌<◌, ◌≤◌, ◌⊎◌, length, refl, ap, subst, inl, inr, ⊎_elim, mul-le-mul_right, mod-lt, suc-mul, div-add-mod', zero-mul, arith}
use Prim.Native.Nat.{◌∣◌}
use native.Mathlib.Nat.{div-mul_cancel, dvd-mul_left}
use Rattle.std.proofs.lemmas.Bool.{cases_lt}
use Rattle.plan.specs.Contents.{Contents, at}
use Rattle.literature.specs.Systems.{Trace, Completed, Current}

-- m falls into the period of this length that follows k whole ones after the offset o
pub record Within (o q m k : ℕ) : Type 0 where
  pub from : o + k * q ≤ m
  pub to : m < o + k * q + q

-- the number of the period at m
abbrev pub Phase : ℕ → ℕ → ℕ → ℕ → Type 0
Phase o q m n = ((m < o) × (n ≡ 0)) ⊎ ((k : ℕ) × (n ≡ suc k) × Within o q m k)

-- fewer whole periods end earlier
fewer : (q k l : ℕ) → k < l → k * q + q ≤ l * q
fewer q k l h = omega (arith, suc-mul k q, mul-le-mul_right {m = suc k} {n = l} q h)

within_unique : (o q m k l : ℕ) → Within o q m k → Within o q m l → k ≡ l
within_unique o q m k l a b =
    ⊎_elim (λ h. absurd (omega (arith, fewer q k l h)))
    (λ h. ⊎_elim (λ g. absurd (omega (arith, fewer q l k g))) (λ g. omega arith) (cases_lt l k))
    (cases_lt k l)

-- after the offset there is one
within : (o q m : ℕ) → 1 ≤ q → o ≤ m → Within o q m ((m - o) / q)
within o q m pos h =
    let split = div-add-mod' (m - o) q in
    let small = mod-lt (m - o) pos in
    record { from = omega arith; to = omega arith }

pub phase_exists : (o q m : ℕ) → 1 ≤ q → (n : ℕ) × Phase o q m n
phase_exists o q m pos =
    elim (cases_lt m o) [ inl h ↦ (0, inl (h, refl)) | inr h ↦ (suc ((m - o) / q), inr ((m - o) / q, refl, within o q m pos h)) ]

-- where a period begins at m, it is the current one
pub begins : (o q m k : ℕ) → Within o q m k → o ≤ m → q ∣ m - o → m ≡ o + k * q
begins o q m k w h d =
    let c = div-mul_cancel q d in
    let j : ℕ = (m - o) / q in
    let v : Within o q m j = record { from = omega arith; to = omega arith } in
    let e = ap (λ (x : ℕ). x * q) (within_unique o q m k j w v) in
    omega arith

-- and where none begins, it went on from the time before
pub goes_on : (o q m k : ℕ) → Within o q (suc m) k → ¬ (q ∣ suc m - o) → Within o q m k
goes_on o q m k w n = ⊎_elim (λ h. record { from = omega arith; to = omega arith }) (λ h. absurd (n (here h))) (cases_lt (o + k * q) (suc m))
  where
    here : suc m ≤ o + k * q → q ∣ suc m - o
    here h = let e : k * q ≡ suc m - o = omega arith in subst (λ (x : ℕ). q ∣ x) e (dvd-mul_left q k)

module _ (p : Contents) (h : Trace) (τ : ℕ) where
  abbrev o : ℕ
  o = (at p τ).offset

  abbrev q : ℕ
  q = (at p τ).period

  pub current_phase : (n : ℕ) → Current p h τ n → Phase o q (length h) n
  current_phase n (inl a) = inl a
  current_phase n (inr (inl (a, b, e))) = inr (0, e, record { from = omega (arith, zero-mul q); to = omega (arith, zero-mul q) })
  current_phase n (inr (inr (a, (m, ((one, done), last), e)))) = inr (m, omega arith, record { from = done; to = below (cases_lt (length h) (o + m * q + q)) })
    where
      below : (length h < o + m * q + q) ⊎ (o + m * q + q ≤ length h) → length h < o + m * q + q
      below (inl l) = l
      below (inr g) = absurd (omega (arith, last (suc m) (omega arith, omega (arith, suc-mul m q))))

  pub phase_current : (n : ℕ) → Phase o q (length h) n → Current p h τ n
  phase_current n (inl a) = inl a
  phase_current n (inr (zero, e, w)) = inr (inl (omega (arith, zero-mul q), omega (arith, zero-mul q), e))
  phase_current n (inr (suc k, e, w)) =
      inr (inr (omega (arith, suc-mul k q), (suc k, ((omega arith, w.from), λ m c. last m c (cases_lt (suc k) m)), omega arith)))
    where
      last : (m : ℕ) → Completed p h τ m → (suc k < m) ⊎ (m ≤ suc k) → m ≤ suc k
      last m c (inr l) = l
      last m c (inl g) = absurd (omega (arith, fewer q (suc k) m g, w.to, c.1))
