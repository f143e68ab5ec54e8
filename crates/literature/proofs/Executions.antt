-- How long the trace gets, and how the execution time in the current period grows with it.
use Rattle.std.proofs.Common.{◌≡◌, ℕ, zero, suc, ◌+◌, ◌-◌, ◌*◌, ◌<◌, ◌≤◌, [], ◌∷◌, ◌++◌, length, take, drop, Some, None, Option, sym, refl, ap, ◌∙◌, zero-mul, arith}
use Rattle.std.proofs.lemmas.List.{length_push, get_or_push, length-drop, take_all, drop_all, drop-append-le}
use Rattle.std.proofs.lemmas.Bool.{eq-eqb, ne_eqb}
use Rattle.plan.specs.Contents.{Contents, at}
use Rattle.literature.specs.Systems.{SystemState, Trace, idle, last_needs, nth_period, executed_by, executed, prefix}
use Rattle.literature.proofs.Periods.{Within}

pub executes_one : (c : Option ℕ) (τ : ℕ) → c ≡ Some τ → executed_by c τ ≡ 1
executes_one c τ e = rw (e, eq-eqb τ τ refl)

pub executes_none : (c : Option ℕ) (τ : ℕ) → ¬ (c ≡ Some τ) → executed_by c τ ≡ 0
executes_none None τ n = refl
executes_none (Some x) τ n = rw (ne_eqb x τ (λ e. n (ap Some e)))

executed_push : (p : Contents) (h : Trace) (σ : SystemState) (τ : ℕ)
    → executed p (h ++ σ ∷ []) τ ≡ executed p h τ + executed_by (σ.executes (at p τ).core) τ
executed_push p [] σ τ = omega arith
executed_push p (x ∷ h) σ τ = let ih = executed_push p h σ τ in omega arith

module _ (ρ : ℕ → SystemState) where
  pub prefix_long : (t : ℕ) → length (prefix ρ t) ≡ t
  prefix_long zero = refl
  prefix_long (suc t) = omega (arith, length_push (prefix ρ t) (ρ t), prefix_long t)

  pub last_is : (t τ : ℕ) → last_needs (prefix ρ (suc t)) τ ≡ (ρ t).needs τ
  last_is t τ =
      ap (λ (σ : SystemState). σ.needs τ)
      (get_or_push (prefix ρ t) (ρ t) idle (length (prefix ρ (suc t)) - 1) (omega (arith, length_push (prefix ρ t) (ρ t))))

-- what the task has executed by t in its n-th period
abbrev pub spent : Contents → (ℕ → SystemState) → ℕ → ℕ → ℕ → ℕ
spent p ρ t τ n = executed p (nth_period p (prefix ρ t) τ n) τ

module _ (p : Contents) (ρ : ℕ → SystemState) (τ : ℕ) where
  abbrev o : ℕ
  o = (at p τ).offset

  abbrev q : ℕ
  q = (at p τ).period

  -- what it has executed by t in the period that begins at a
  abbrev since : ℕ → ℕ → ℕ
  since a t = executed p (take q (drop a (prefix ρ t))) τ

  since_none : (a t : ℕ) → t ≤ a → since a t ≡ 0
  since_none a t h =
      let e : drop a (prefix ρ t) ≡ [] = drop_all a (prefix ρ t) (omega (arith, prefix_long ρ t)) in
      let f : take q (drop a (prefix ρ t)) ≡ take q [] = ap (take q) e in
      let g : take q [] ≡ [] = take_all q [] (omega arith) in
      ap (λ (l : Trace). executed p l τ) (f ∙ g)

  since_more : (a t : ℕ) → a ≤ t → t < a + q → since a (suc t) ≡ since a t + executed_by ((ρ t).executes (at p τ).core) τ
  since_more a t h g =
      let d = drop a (prefix ρ t) in
      let l : length d ≡ t - a = length-drop a (prefix ρ t) ∙ ap (λ (x : ℕ). x - a) (prefix_long ρ t) in
      let split : drop a (prefix ρ (suc t)) ≡ d ++ ρ t ∷ [] = drop-append-le a (prefix ρ t) (ρ t ∷ []) (omega (arith, prefix_long ρ t)) in
      let whole : take q (d ++ ρ t ∷ []) ≡ d ++ ρ t ∷ [] = take_all q (d ++ ρ t ∷ []) (omega (arith, length_push d (ρ t))) in
      let before : take q d ≡ d = take_all q d (omega arith) in
      ap (λ (x : Trace). executed p x τ) (ap (take q) split ∙ whole) ∙ executed_push p d (ρ t) τ
      ∙ ap (λ (x : Trace). executed p x τ + executed_by ((ρ t).executes (at p τ).core) τ) (sym before)

  -- the n-th period begins after n - 1 whole ones
  start : (n k : ℕ) → n - 1 ≡ k → o + (n - 1) * q ≡ o + k * q
  start n k e = ap (λ (x : ℕ). o + x * q) e

  pub spent_early : (t n : ℕ) → n ≡ 0 → t ≤ o → spent p ρ t τ n ≡ 0
  spent_early t n e h = since_none (o + (n - 1) * q) t (omega (arith, start n 0 (omega arith), zero-mul q))

  pub spent_fresh : (t n k : ℕ) → n ≡ suc k → t ≤ o + k * q → spent p ρ t τ n ≡ 0
  spent_fresh t n k e h = since_none (o + (n - 1) * q) t (omega (arith, start n k (omega arith)))

  pub spent_more : (t n k : ℕ) → n ≡ suc k → Within o q t k → spent p ρ (suc t) τ n ≡ spent p ρ t τ n + executed_by ((ρ t).executes (at p τ).core) τ
  spent_more t n k e w =
      let from = start n k (omega arith) in
      since_more (o + (n - 1) * q) t (omega arith) (omega arith)
