-- What the model asks at a unit of time is decided.
use Rattle.std.proofs.Common.{◌≡◌, ℕ, zero, suc, ◌-◌, ◌<◌, true, ◌≢◌, ◌⊎◌, sym, subst, inl, inr, arith}
use mathlib.Core.Bool.{Bool-discrete}
use mathlib.Core.Logic.Dec
use native.Mathlib.Decide.{dec_le, dec_lt, dec_dvd, ℕ_discrete}
use Rattle.policy.specs.Laws.{Choice}
use Rattle.plan.specs.Contents.{Contents, Sound, count, at}
use Rattle.model.specs.Units.{State, left, Starts, Ready, GoesBefore, Running}
use Rattle.model.proofs.Asking.{before_decided}

pub dec_arrow : {A B : Type 0} → Dec A → Dec B → Dec (A → B)
dec_arrow (no a) b = yes (λ x. absurd (a x))
dec_arrow (yes a) (yes b) = yes (λ x. b)
dec_arrow (yes a) (no b) = no (λ f. b (f a))

pub dec_below : (P : ℕ → Type 0) (n : ℕ) → ((i : ℕ) → i < n → Dec (P i)) → Dec ((i : ℕ) → i < n → P i)
dec_below P zero d = yes (λ i h. absurd (omega arith))
dec_below P (suc n) d = go (dec_below P n (λ i h. d i (omega arith))) (d n (omega arith))
  where
    go : Dec ((i : ℕ) → i < n → P i) → Dec (P n) → Dec ((i : ℕ) → i < suc n → P i)
    go (no a) q = no (λ f. a (λ i h. f i (omega arith)))
    go (yes a) (no b) = no (λ f. b (f n (omega arith)))
    go (yes a) (yes b) = yes (λ i h. at_or_below i h (ℕ_discrete i n))
      where
        at_or_below : (i : ℕ) → i < suc n → Dec (i ≡ n) → P i
        at_or_below i h (yes e) = subst P (sym e) b
        at_or_below i h (no e) = a i (omega arith)

-- none below n is such, or there is a least one
pub least : (P : ℕ → Type 0) → ((i : ℕ) → Dec (P i)) → (n : ℕ)
    → ((i : ℕ) → i < n → ¬ P i) ⊎ ((i : ℕ) × P i × ((j : ℕ) → j < i → ¬ P j))
least P d zero = inl (λ i h. absurd (omega arith))
least P d (suc n) = go (least P d n) (d n)
  where
    go : ((i : ℕ) → i < n → ¬ P i) ⊎ ((i : ℕ) × P i × ((j : ℕ) → j < i → ¬ P j)) → Dec (P n)
        → ((i : ℕ) → i < suc n → ¬ P i) ⊎ ((i : ℕ) × P i × ((j : ℕ) → j < i → ¬ P j))
    go (inr r) x = inr r
    go (inl f) (yes x) = inr (n, x, f)
    go (inl f) (no x) = inl (λ i h y. below i h y (ℕ_discrete i n))
      where
        below : (i : ℕ) → i < suc n → P i → Dec (i ≡ n) → ⊥
        below i h y (yes e) = x (subst P e y)
        below i h y (no e) = f i (omega arith) y

pub starts_decided : (p : Contents) (t i : ℕ) → Dec (Starts p t i)
starts_decided p t i = Dec.and (dec_le (at p i).offset t) (dec_dvd (at p i).period (t - (at p i).offset))

pub ready_decided : (p : Contents) → Sound p → (u : State) (i : ℕ) → Dec (Ready p u i)
ready_decided p ok u i = Dec.of_iff (to, from) (Dec.and (dec_lt 0 (left u i)) (dec_below Clear (count p) (λ a h. clear a)))
  where
    Clear : ℕ → Type 0
    Clear a = p.joined a i ≡ true → left u a ≡ 0

    clear : (a : ℕ) → Dec (Clear a)
    clear a = dec_arrow (Bool-discrete (p.joined a i) true) (ℕ_discrete (left u a) 0)

    to : (0 < left u i) × ((a : ℕ) → a < count p → Clear a) → Ready p u i
    to f = record { working = f.0; waits = λ a j. f.1 a (ok.inside a i j).0 j }

    from : Ready p u i → (0 < left u i) × ((a : ℕ) → a < count p → Clear a)
    from r = (r.working, λ a h j. r.waits a j)

pub running_decided : (p : Contents) (D : Choice) → Sound p → (t : ℕ) (u : State) (i : ℕ) → i < count p → Dec (Running p D t u i)
running_decided p D ok t u i h =
    Dec.of_iff (λ f. record { ready = f.0; first = f.1 }, λ r. (r.ready, r.first))
    (Dec.and (ready_decided p ok u i) (dec_below Yields (count p) yields))
  where
    Yields : ℕ → Type 0
    Yields j = j ≢ i → (at p j).core ≡ (at p i).core → Ready p u j → GoesBefore p D t i j

    yields : (j : ℕ) → j < count p → Dec (Yields j)
    yields j k =
        dec_arrow (Dec.not (ℕ_discrete j i))
        (dec_arrow (ℕ_discrete (at p j).core (at p i).core)
        (dec_arrow (ready_decided p ok u j) (before_decided p D ok t i j h k)))
