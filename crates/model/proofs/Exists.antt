-- A plan has a verdict: it comes by the mark time that has the number of the mark rows. With that it has just one.
use Rattle.std.proofs.Common.{◌≡◌, ℕ, zero, suc, ◌+◌, ◌-◌, ◌<◌, ◌≤◌, ◌⊎◌, ◌↔◌, List, [], ◌∷◌, length, sym, refl, ◌∙◌, subst, inl, inr, arith}
use mathlib.Core.Logic.Dec
use native.Mathlib.Decide.{dec_le, dec_lt, dec_dvd, ℕ_discrete}
use Rattle.std.specs.List.{range_with_len, Contains as Has}
use Rattle.gather.specs.Levels.{Once}
use Rattle.gather.proofs.Counting.{has_cases, once_fits}
use Rattle.policy.specs.Laws.{Choice}
use Rattle.plan.specs.Contents.{Contents, Sound, count, at}
use Rattle.model.specs.declared.verdicts.Rows.TheVariants.{Working, Marks}
use Rattle.model.specs.declared.verdicts.Verdict.{Verdict}
use Rattle.model.specs.declared.verdicts.Verdict.TheVariants.{Kept, Missed, RowsShort}
use Rattle.model.specs.Units.{State, left}
use Rattle.model.specs.Runs.{StateAt, Late, Misses, mark, Marked}
use Rattle.model.specs.Verdicts.{Outnumber, Number, Closes, Timely, Passes, Gives, VerdictIs}
use Rattle.model.specs.Theorems.{OneVerdict}
use Rattle.model.proofs.Deciding.{least}
use Rattle.model.proofs.Lists.{has_none, has_only, once_none, once_cons, AllOrOne, all_or_one, flat, has_flat, has_flat_cases}
use Rattle.model.proofs.Lists.{has_counting, counting_has, dec_has, thinned}
use Rattle.model.proofs.Marks.{round_some, mark_before, mark_apart, mark_high}
use Rattle.model.proofs.Extend.{some_run}
use Rattle.model.proofs.Listed.{all_at, at_listed}
use Rattle.model.proofs.Unique.{verdict_one}

-- ---- what holds of finitely many states

record Finite (P : State → Type 0) : Type 0 where
  states : List State
  once : Once states
  just : (s : State) → P s ↔ Has states s

finite : (P : State → Type 0) (l : List State) → ((s : State) → P s ↔ Has l s) → Finite P
finite P l f =
    let r = thinned l in
    record {
      states = r.0;
      once = r.1;
      just = λ s. (λ x. (r.2 s).0 ((f s).0 x), λ h. (f s).1 ((r.2 s).1 h));
    }

number_of : (P : State → Type 0) (f : Finite P) → Number P (length f.states)
number_of P f =
    record {
      states = f.states;
      once = f.once;
      such = λ s h. (f.just s).1 h;
      all = λ s x. (f.just s).0 x;
      many = refl;
    }

dec_outnumber : (P : State → Type 0) → Finite P → (n : ℕ) → Dec (Outnumber P n)
dec_outnumber P f n = go (dec_lt n (length f.states))
  where
    go : Dec (n < length f.states) → Dec (Outnumber P n)
    go (yes h) = yes (record { states = f.states; once = f.once; such = λ s x. (f.just s).1 x; many = h })
    go (no h) = no λ o.
        let a : length o.states ≤ length f.states = once_fits o.states f.states o.once (λ s x. (f.just s).0 (o.such s x)) in
        let b : n < length o.states = o.many in
        h (omega arith)

module _ (p : Contents) (D : Choice) (ok : Sound p) where
  finite_at : (t : ℕ) → Finite (StateAt p D t)
  finite_at t = finite (StateAt p D t) (all_at p D ok t) (at_listed p D ok t)

  finite_marked : (k : ℕ) → Finite (Marked p D k)
  finite_marked k =
      finite (Marked p D k) (flat at_mark (range_with_len 0 (suc k))) λ s. (
        λ m. has_flat at_mark m.0 s (range_with_len 0 (suc k))
            (let l : m.0 ≤ k = m.1 in has_counting 0 (suc k) m.0 (omega arith) (omega arith))
            ((at_listed p D ok (mark p m.0) s).0 m.2),
        λ h. let r = has_flat_cases at_mark s (range_with_len 0 (suc k)) h in
            let b = counting_has 0 (suc k) r.0 r.1 in
            (r.0, omega (arith, b.1), (at_listed p D ok (mark p r.0) s).1 r.2),
      )
    where
      at_mark : ℕ → List State
      at_mark j = all_at p D ok (mark p j)

  dec_marked : (k : ℕ) (s : State) → Dec (Marked p D k s)
  dec_marked k s =
      let f = finite_marked k in
      Dec.of_iff ((f.just s).1, (f.just s).0) (dec_has f.states s)

  dec_late : (t : ℕ) (s : State) (i : ℕ) → Dec (Late p t s i)
  dec_late t s i =
      Dec.of_iff
      (λ x. record { known = x.0.0; due = x.0.1; turn = x.1.0; working = x.1.1 }, λ l. ((l.known, l.due), (l.turn, l.working)))
      (Dec.and (Dec.and (dec_lt i (count p)) (dec_le ((at p i).offset + (at p i).period) t))
      (Dec.and (dec_dvd (at p i).period (t - (at p i).offset)) (dec_lt 0 (left s i))))

  dec_misses : (t i : ℕ) → Dec (Misses p D t i)
  dec_misses t i = go (all_or_one (λ s. ¬ Late p t s i) (λ s. Dec.not (dec_late t s i)) (all_at p D ok t))
    where
      found : (s : State) → Has (all_at p D ok t) s → Dec (Late p t s i) → ¬ ¬ Late p t s i → Misses p D t i
      found s h (yes l) n = (s, (at_listed p D ok t s).1 h, l)
      found s h (no l) n = absurd (n l)

      go : AllOrOne (λ s. ¬ Late p t s i) (all_at p D ok t) → Dec (Misses p D t i)
      go (inl f) = no (λ m. f m.0 ((at_listed p D ok t m.0).0 m.1) m.2)
      go (inr (s, h, n)) = yes (found s h (dec_late t s i) n)

  -- the lowest place that is late at t in any run
  abbrev Lowest : ℕ → Type 0
  Lowest t = (i : ℕ) × Misses p D t i × ((j : ℕ) → j < i → ¬ Misses p D t j)

  timely_or_lowest : (t : ℕ) → Timely p D t ⊎ Lowest t
  timely_or_lowest t = go (least (Misses p D t) (dec_misses t) (count p))
    where
      go : ((i : ℕ) → i < count p → ¬ Misses p D t i) ⊎ Lowest t → Timely p D t ⊎ Lowest t
      go (inl f) = inl (λ i m. f i m.2.known m)
      go (inr r) = inr r

  -- all states at the mark time k are among the marks up to j, or one is not
  abbrev OldOrNew : ℕ → ℕ → Type 0
  OldOrNew k j = ((s : State) → StateAt p D (mark p k) s → Marked p D j s) ⊎ ((s : State) × StateAt p D (mark p k) s × ¬ Marked p D j s)

  old_or_new : (k j : ℕ) → OldOrNew k j
  old_or_new k j = go (all_or_one (Marked p D j) (dec_marked j) (all_at p D ok (mark p k)))
    where
      go : AllOrOne (Marked p D j) (all_at p D ok (mark p k)) → OldOrNew k j
      go (inl f) = inl (λ s a. f s ((at_listed p D ok (mark p k) s).0 a))
      go (inr (s, h, n)) = inr (s, (at_listed p D ok (mark p k) s).1 h, n)

  dec_closes : (k : ℕ) → Dec (Closes p D k)
  dec_closes k = go (dec_le 1 k) (old_or_new k (k - 1))
    where
      go : Dec (1 ≤ k) → OldOrNew k (k - 1) → Dec (Closes p D k)
      go (no n) r = no (λ c. n c.0)
      go (yes l) (inl f) = yes (l, f)
      go (yes l) (inr (s, a, n)) = no (λ c. n (c.1 s a))

  is_mark : (t : ℕ) → Dec ((k : ℕ) × (t ≡ mark p k))
  is_mark t = go (least (λ k. t ≡ mark p k) (λ k. ℕ_discrete t (mark p k)) (suc t))
    where
      go : ((k : ℕ) → k < suc t → ¬ (t ≡ mark p k)) ⊎ ((k : ℕ) × (t ≡ mark p k) × ((j : ℕ) → j < k → ¬ (t ≡ mark p j)))
          → Dec ((k : ℕ) × (t ≡ mark p k))
      go (inr r) = yes (r.0, r.1)
      go (inl f) = no λ m.
          let l : m.0 ≤ mark p m.0 = mark_high p ok m.0 in
          f m.0 (omega (arith, m.1)) m.1

  module _ (w m : ℕ) where
    -- a time passes, or gives a verdict
    abbrev Outcome : ℕ → Type 0
    Outcome t = Passes p D w m t ⊎ ((v : Verdict) × Gives p D w m t v)

    at_time : (t : ℕ) → Outcome t
    at_time t = go (dec_outnumber (StateAt p D t) (finite_at t) w) (timely_or_lowest t) (is_mark t)
      where
        go : Dec (Outnumber (StateAt p D t) w) → Timely p D t ⊎ Lowest t → Dec ((k : ℕ) × (t ≡ mark p k)) → Outcome t
        go (yes o) x y = inr (RowsShort Working t, (refl, o))
        go (no n) (inr (i, a, f)) y = inr (Missed t (suc i), (refl, n, (i, refl, a, f)))
        go (no n) (inl f) (no z) =
            inl (record { fits = n; timely = f; opens = λ k e c. z (k, e); holds = λ k e c. z (k, e) })
        go (no n) (inl f) (yes (k, e)) = close (dec_closes k) (dec_outnumber (Marked p D k) (finite_marked k) m)
          where
            close : Dec (Closes p D k) → Dec (Outnumber (Marked p D k) m) → Outcome t
            close (yes c) o =
                let g = finite_marked (k - 1) in
                inr (Kept k (length g.states), (e, n, f, c, number_of (Marked p D (k - 1)) g))
            close (no c) (yes o) = inr (RowsShort Marks t, (refl, n, f, (k, e, c, o)))
            close (no c) (no o) =
                inl (record {
                  fits = n;
                  timely = f;
                  opens = λ j q x. c (subst (Closes p D) (mark_apart p ok j k (sym q ∙ e)) x);
                  holds = λ j q x. o (subst (λ (y : ℕ). Outnumber (Marked p D y) m) (mark_apart p ok j k (sym q ∙ e)) x);
                })

    abbrev PassedOrVerdict : ℕ → Type 0
    PassedOrVerdict n = ((e : ℕ) → e < n → Passes p D w m e) ⊎ ((v : Verdict) × VerdictIs p D w m v)

    first_time : (n : ℕ) → PassedOrVerdict n
    first_time zero = inl (λ e h. absurd (omega arith))
    first_time (suc n) = go (first_time n) (at_time n)
      where
        go : PassedOrVerdict n → Outcome n → PassedOrVerdict (suc n)
        go (inr r) x = inr r
        go (inl f) (inr (v, g)) = inr (v, (n, f, g))
        go (inl f) (inl x) = inl (λ e h. below e h (ℕ_discrete e n))
          where
            below : (e : ℕ) → e < suc n → Dec (e ≡ n) → Passes p D w m e
            below e h (yes q) = subst (Passes p D w m) (sym q) x
            below e h (no q) = f e (omega arith)

    -- while no mark time closes, each has a new state
    grow : (k : ℕ) → ((e : ℕ) → e ≤ mark p k → Passes p D w m e) → Outnumber (Marked p D k) k
    grow zero f =
        let r = some_run p D ok in
        let first = r.0 (mark p 0) in
        record {
          states = first ∷ [];
          once = once_cons first [] (has_none first) once_none;
          such = λ s h. (0, omega arith, (r.0, r.1, has_only first s h));
          many = omega arith;
        }
    grow (suc k) f =
        let less : mark p k < mark p (suc k) = omega (arith, mark_before p k (suc k) (omega arith), round_some p ok) in
        go (grow k (λ e l. f e (omega arith))) (old_or_new (suc k) k)
      where
        go : Outnumber (Marked p D k) k → OldOrNew (suc k) k → Outnumber (Marked p D (suc k)) (suc k)
        go o (inl g) =
            let q : k ≡ suc k - 1 = omega arith in
            absurd ((f (mark p (suc k)) (omega arith)).opens (suc k) refl
            (omega arith, λ s a. subst (λ (j : ℕ). Marked p D j s) q (g s a)))
        go o (inr (s, a, n)) =
            record {
              states = s ∷ o.states;
              once = once_cons s o.states (λ h. n (o.such s h)) o.once;
              such = λ x h.
                  elim (has_cases s x o.states h) [
                    | inl e ↦ (suc k, omega arith, subst (StateAt p D (mark p (suc k))) e a)
                    | inr b ↦ (let r = o.such x b in let l : r.0 ≤ k = r.1 in (r.0, omega arith, r.2))
                  ];
              many = let b : k < length o.states = o.many in omega arith;
            }

    some_verdict : (v : Verdict) × VerdictIs p D w m v
    some_verdict = go (first_time (suc (mark p m)))
      where
        go : PassedOrVerdict (suc (mark p m)) → (v : Verdict) × VerdictIs p D w m v
        go (inr r) = r
        go (inl f) = absurd ((f (mark p m) (omega arith)).holds m refl (grow m (λ e l. f e (omega arith))))

pub one_verdict : OneVerdict
one_verdict p D ok w m = let r = some_verdict p D ok w m in (r.0, r.1, λ v b. verdict_one p D w m ok v r.0 b r.1)
