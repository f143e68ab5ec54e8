-- The computed lists are the states at a time and the marks, and so what the tests answer is the verdict.
use Rattle.std.proofs.Common.{◌≡◌, ℕ, zero, suc, ◌+◌, ◌-◌, ◌*◌, ◌/◌, ◌<◌, ◌≤◌, Bool, true, false, cond, ◌&&◌, ◌↔◌, List, [], ◌∷◌, length, sym, refl, ap, ◌∙◌, subst, div-add-mod', true≢false, arith}
use Rattle.std.specs.Prelude.{Some, None, Option, Decides, nat_lt, nat_le, is_some, unwrap_or}
use Rattle.std.specs.Int.{◌∣◌}
use Rattle.std.specs.List.{range_with_len, Contains as Has}
use Rattle.std.proofs.Math.Nat.{mod-eq-zero_of_dvd}
use native.Mathlib.Nat.{dvd-mul_left}
use native.Mathlib.Decide.{ℕ_discrete}
use Rattle.gather.specs.Levels.{Once}
use Rattle.gather.proofs.Counting.{has_here, once_fits}
use Rattle.policy.specs.Laws.{Choice}
use Rattle.plan.specs.Contents.{Contents, Sound, count, at, round, settling}
use Rattle.model.specs.declared.verdicts.Verdict.{Verdict}
use Rattle.model.specs.Units.{State, left, zeros}
use Rattle.model.specs.Runs.{StateAt, Late, Misses, mark, Marked}
use Rattle.model.specs.Verdicts.{Outnumber, Number, Closes, Timely, Passes, Gives, VerdictIs}
use Rattle.model.proofs.Extend.{some_run, beginnings_go_on}
use Rattle.model.proofs.Lists.{has_none, has_only, once_none, once_cons, flat, has_flat, has_flat_cases, has_counting, counting_has}
use Rattle.model.proofs.Marks.{mark_apart}
use Rattle.samples.proofs.Evaluate.{member, thin, lowest, Asks, divides, late, mark_at, nexts, states, misses, marks, closes, if_held, if_closed, if_mark, if_late, if_short, outcome, or_else, verdict_by}
use Rattle.samples.proofs.Deciding.{lt_decides, le_decides, divides_decides, iff_decides, and_decides, all_decides, any_decides, member_decides, fails, thin_thins, IsLowest, lowest_is}
use Rattle.samples.proofs.Unit.{Answers, step_nexts}

-- ---- how many are such

-- the list has all that are such, each once
record Listed (P : State → Type 0) (l : List State) : Type 0 where
  once : Once l
  just : (s : State) → P s ↔ Has l s

thinned_listed : (P : State → Type 0) (l : List State) → ((s : State) → P s ↔ Has l s) → Listed P (thin l)
thinned_listed P l f =
    let r = thin_thins l in
    record {
      once = r.once;
      just = λ s. (λ x. (r.just s).0 ((f s).0 x), λ h. (f s).1 ((r.just s).1 h));
    }

number_of : (P : State → Type 0) (l : List State) → Listed P l → Number P (length l)
number_of P l f =
    record {
      states = l;
      once = f.once;
      such = λ s h. (f.just s).1 h;
      all = λ s x. (f.just s).0 x;
      many = refl;
    }

outnumber_decides : (P : State → Type 0) (l : List State) → Listed P l → (n : ℕ) → Decides (nat_lt n (length l)) (Outnumber P n)
outnumber_decides P l f n =
    iff_decides (
      λ h. record { states = l; once = f.once; such = λ s x. (f.just s).1 x; many = h },
      λ o. let a : length o.states ≤ length l = once_fits o.states l o.once (λ s x. (f.just s).0 (o.such s x)) in
          let b : n < length o.states = o.many in
          omega arith,
    )
    (lt_decides n (length l))

-- ---- which mark time it is

abbrev IsMark : Contents → ℕ → Option ℕ → Type 0
IsMark p t None = (k : ℕ) → ¬ (t ≡ mark p k)
IsMark p t (Some k) = t ≡ mark p k

mark_at_is : (p : Contents) (t : ℕ) → IsMark p t (mark_at p t)
mark_at_is p t = go (nat_le (settling p) t && divides (round p) (t - settling p)) (and_decides _ _ (le_decides (settling p) t) (divides_decides (round p) (t - settling p)))
  where
    go : (b : Bool) → Decides b ((settling p ≤ t) × (round p ∣ t - settling p)) → IsMark p t (cond b (Some ((t - settling p) / round p)) None)
    go true d =
        let r = d.0 refl in
        let past : settling p ≤ t = r.0 in
        omega (arith, div-add-mod' (t - settling p) (round p), mod-eq-zero_of_dvd (round p) r.1)
    go false d = λ k e.
        let q : k * round p ≡ t - settling p = omega arith in
        fails d refl (omega arith, subst (λ (x : ℕ). round p ∣ x) q (dvd-mul_left (round p) k))

module _ (p : Contents) (D : Choice) (ok : Sound p) (first : Asks) (right : Answers p D first) where
  -- ---- the states at a time, and the marks

  pub at_states : (t : ℕ) (s : State) → StateAt p D t s ↔ Has (states p first t) s
  at_states zero s = (
    λ a. subst (Has (zeros p ∷ [])) (sym a.1.begins ∙ a.2) (has_here (zeros p) []),
    λ h. let r = some_run p D ok in (r.0, r.1, r.1.begins ∙ has_only (zeros p) s h),
  )
  at_states (suc t) s = (
    λ a. let r = (beginnings_go_on p D ok t s).0 a in
        ((thin_thins (flat (nexts p first t) (states p first t))).just s).0
        (has_flat (nexts p first t) r.0 s (states p first t) ((at_states t r.0).0 r.1) ((step_nexts p ok D first right t r.0 s).0 r.2)),
    λ h. let r = has_flat_cases (nexts p first t) s (states p first t) (((thin_thins (flat (nexts p first t) (states p first t))).just s).1 h) in
        (beginnings_go_on p D ok t s).1 (r.0, (at_states t r.0).1 r.1, (step_nexts p ok D first right t r.0 s).1 r.2),
  )

  once_states : (t : ℕ) → Once (states p first t)
  once_states zero = once_cons (zeros p) [] (has_none (zeros p)) once_none
  once_states (suc t) = (thin_thins (flat (nexts p first t) (states p first t))).once

  listed_at : (t : ℕ) → Listed (StateAt p D t) (states p first t)
  listed_at t = record { once = once_states t; just = at_states t }

  listed_marked : (k : ℕ) → Listed (Marked p D k) (marks p first k)
  listed_marked k =
      thinned_listed (Marked p D k) (flat at_mark (range_with_len 0 (suc k))) λ s. (
        λ m. has_flat at_mark m.0 s (range_with_len 0 (suc k))
            (let l : m.0 ≤ k = m.1 in has_counting 0 (suc k) m.0 (omega arith) (omega arith))
            ((at_states (mark p m.0) s).0 m.2),
        λ h. let r = has_flat_cases at_mark s (range_with_len 0 (suc k)) h in
            let b = counting_has 0 (suc k) r.0 r.1 in
            (r.0, omega (arith, b.1), (at_states (mark p r.0) s).1 r.2),
      )
    where
      at_mark : ℕ → List State
      at_mark j = states p first (mark p j)

  -- ---- the four tests

  late_decides : (t i : ℕ) → i < count p → (s : State) → Decides (late p t s i) (Late p t s i)
  late_decides t i h s =
      iff_decides
      (λ x. record { known = h; due = x.0; turn = x.1.0; working = x.1.1 }, λ l. (l.due, (l.turn, l.working)))
      (and_decides _ _ (le_decides ((at p i).offset + (at p i).period) t)
      (and_decides _ _ (divides_decides (at p i).period (t - (at p i).offset)) (lt_decides 0 (left s i))))

  misses_decides : (t i : ℕ) → i < count p → Decides (misses p first t i) (Misses p D t i)
  misses_decides t i h =
      iff_decides
      (λ x. (x.0, (at_states t x.0).1 x.1, x.2), λ m. (m.0, (at_states t m.0).0 m.1, m.2))
      (any_decides (λ s. late p t s i) (λ s. Late p t s i) (late_decides t i h) (states p first t))

  closes_decides : (k : ℕ) → Decides (closes p first k) (Closes p D k)
  closes_decides k =
      and_decides _ _ (le_decides 1 k)
      (iff_decides
      (λ f s a. f s ((at_states (mark p k) s).0 a), λ f s h. f s ((at_states (mark p k) s).1 h))
      (all_decides (λ s. member s (marks p first (k - 1))) (Marked p D (k - 1)) is_mark (states p first (mark p k))))
    where
      is_mark : (s : State) → Decides (member s (marks p first (k - 1))) (Marked p D (k - 1) s)
      is_mark s = let f = listed_marked (k - 1) in iff_decides ((f.just s).1, (f.just s).0) (member_decides s (marks p first (k - 1)))

  -- ---- the verdict

  module _ (w m : ℕ) where
    -- what no verdict says, and what one says
    abbrev Told : ℕ → Option Verdict → Type 0
    Told t None = Passes p D w m t
    Told t (Some v) = Gives p D w m t v

    told : (t : ℕ) → Told t (outcome p first w m t)
    told t = short (nat_lt w (length (states p first t))) (outnumber_decides (StateAt p D t) (states p first t) (listed_at t) w)
      where
        short : (b : Bool) → Decides b (Outnumber (StateAt p D t) w) → Told t (if_short p first w m t b)
        short true d = (refl, d.0 refl)
        short false d = lowest_late (lowest (misses p first t) (count p)) (lowest_is (misses p first t) (count p))
          where
            fits : ¬ Outnumber (StateAt p D t) w
            fits = fails d refl

            lowest_late : (o : Option ℕ) → IsLowest (misses p first t) (count p) o → Told t (if_late p first w m t o)
            lowest_late (Some i) r =
                let l : i < count p = r.1 in
                (refl, fits, (i, refl, (misses_decides t i l).0 r.0, λ j h. fails (misses_decides t j (omega arith)) (r.2 j h)))
            lowest_late None r = at_mark (mark_at p t) (mark_at_is p t)
              where
                timely : Timely p D t
                timely i x = fails (misses_decides t i x.2.known) (r i x.2.known) x

                at_mark : (o : Option ℕ) → IsMark p t o → Told t (if_mark p first w m t o)
                at_mark None z = record { fits = fits; timely = timely; opens = λ k e c. z k e; holds = λ k e c. z k e }
                at_mark (Some k) e = close (closes p first k) (closes_decides k)
                  where
                    held : (b : Bool) → ¬ Closes p D k → Decides b (Outnumber (Marked p D k) m) → Told t (if_held p first w m t b)
                    held true c x = (refl, fits, timely, (k, e, c, x.0 refl))
                    held false c x =
                        record {
                          fits = fits;
                          timely = timely;
                          opens = λ j q y. c (subst (Closes p D) (mark_apart p ok j k (sym q ∙ e)) y);
                          holds = λ j q y. fails x refl (subst (λ (z : ℕ). Outnumber (Marked p D z) m) (mark_apart p ok j k (sym q ∙ e)) y);
                        }

                    close : (b : Bool) → Decides b (Closes p D k) → Told t (if_closed p first w m t k b)
                    close true c = (e, fits, timely, c.0 refl, number_of (Marked p D (k - 1)) (marks p first (k - 1)) (listed_marked (k - 1)))
                    close false c =
                        held (nat_lt m (length (marks p first k))) (fails c refl)
                        (outnumber_decides (Marked p D k) (marks p first k) (listed_marked k) m)

    abbrev AllPassed : ℕ → Type 0
    AllPassed t = (e : ℕ) → e < t → Passes p D w m e

    one_more : (t : ℕ) → AllPassed t → Passes p D w m t → AllPassed (suc t)
    one_more t f x e h = below_or e h (ℕ_discrete e t)
      where
        below_or : (e : ℕ) → e < suc t → Dec (e ≡ t) → Passes p D w m e
        below_or e h (yes q) = subst (Passes p D w m) (sym q) x
        below_or e h (no q) = f e (omega arith)

    verdict_from : (n t : ℕ) (v : Verdict) → verdict_by p first w m n t ≡ Some v → AllPassed t → VerdictIs p D w m v
    verdict_from zero t v e f = absurd (true≢false (sym (ap is_some e)))
    verdict_from (suc n) t v e f = go (outcome p first w m t) (told t) e (λ g x. verdict_from n (suc t) v x g)
      where
        go : (o : Option Verdict) → Told t o → or_else o (λ x. verdict_by p first w m n (suc t)) ≡ Some v
            → (AllPassed (suc t) → verdict_by p first w m n (suc t) ≡ Some v → VerdictIs p D w m v) → VerdictIs p D w m v
        go (Some x) g e rest = (t, f, subst (Gives p D w m t) (ap (λ o. unwrap_or o v) e) g)
        go None g e rest = rest (one_more t f g) e

    -- what is computed is the verdict
    pub computed_verdict : (n : ℕ) (v : Verdict) → verdict_by p first w m n 0 ≡ Some v → VerdictIs p D w m v
    computed_verdict n v e = verdict_from n 0 v e (λ e h. absurd (omega arith))
