-- The round, the settling time and the mark times of a plan.
use Rattle.std.proofs.Common.{◌≡◌, ℕ, suc, ◌+◌, ◌*◌, ◌<◌, ◌≤◌, ◌∙◌, subst, mul-le-mul_right, suc-mul, add-mul, mul-le-mul_left, arith}
use Prim.Native.Nat.{◌∣◌}
use native.Mathlib.Decide.{dec_lt}
use native.Mathlib.Nat.{dvd-mul_left_of_dvd}
use Rattle.std.proofs.lemmas.List.{get_or_default}
use Rattle.std.proofs.lemmas.List.Elements.{Contains-get_or}
use Rattle.plan.specs.declared.handlers.Handler.{Handler}
use Rattle.plan.specs.Rows.{blank, LeastRound}
use Rattle.plan.specs.Contents.{Contents, Sound, count, at, round, settling}
use Rattle.plan.proofs.Rounds.{round_least, settling_greatest}
use Rattle.model.specs.Runs.{mark}

round_is : (p : Contents) → Sound p → LeastRound p.handlers (round p)
round_is p ok = round_least p.handlers (λ h m. subst (λ (x : Handler). 1 ≤ x.period) (get_or_default p.handlers m.0 blank h m.1 ∙ m.2) (ok.ranges m.0 m.1).0)

pub round_some : (p : Contents) → Sound p → 1 ≤ round p
round_some p ok = (round_is p ok).some

pub period_divides : (p : Contents) → Sound p → (i : ℕ) → i < count p → (at p i).period ∣ round p
period_divides p ok i h = (round_is p ok).common (at p i) (Contains-get_or p.handlers i blank h)

pub rounds_divide : (p : Contents) → Sound p → (k i : ℕ) → i < count p → (at p i).period ∣ k * round p
rounds_divide p ok k i h = dvd-mul_left_of_dvd (at p i).period (period_divides p ok i h) k

pub settled : (p : Contents) (i : ℕ) → i < count p → (at p i).offset ≤ settling p
settled p i h = (settling_greatest p.handlers).above (at p i) (Contains-get_or p.handlers i blank h)

pub mark_later : (p : Contents) (i d : ℕ) → mark p (i + d) ≡ mark p i + d * round p
mark_later p i d = let e : (i + d) * round p ≡ i * round p + d * round p = add-mul i d (round p) in omega arith

pub mark_next : (p : Contents) (i : ℕ) → mark p (suc i) ≡ mark p i + round p
mark_next p i = let e : suc i * round p ≡ i * round p + round p = suc-mul i (round p) in omega arith

-- a mark time is a round and more before each later one
pub mark_before : (p : Contents) (i k : ℕ) → i < k → mark p i + round p ≤ mark p k
mark_before p i k l = let rounds : suc i * round p ≤ k * round p = mul-le-mul_right (round p) l in omega (arith, mark_next p i)

pub mark_apart : (p : Contents) → Sound p → (i k : ℕ) → mark p i ≡ mark p k → i ≡ k
mark_apart p ok i k e = go (dec_lt i k) (dec_lt k i)
  where
    some : 1 ≤ round p
    some = round_some p ok

    go : Dec (i < k) → Dec (k < i) → i ≡ k
    go (yes h) g = absurd (omega (arith, mark_before p i k h, some))
    go (no h) (yes g) = absurd (omega (arith, mark_before p k i g, some))
    go (no h) (no g) = omega arith

pub mark_high : (p : Contents) → Sound p → (k : ℕ) → k ≤ mark p k
mark_high p ok k = let a : k * 1 ≤ k * round p = mul-le-mul_left k (round_some p ok) in omega arith
