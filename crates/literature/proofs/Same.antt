-- The two models are one wherever the priorities are the discipline's choices.
use Rattle.std.proofs.Common.{◌≡◌, ℕ, zero, suc, ◌+◌, ◌-◌, ◌*◌, ◌/◌, ◌<◌, ◌≤◌, ◌⊎◌, ◌↔◌, refl, subst, inl, inr, suc-mul, zero-mul, arith}
use Prim.Native.Nat.{◌∣◌}
use native.Mathlib.Nat.{div-mul_cancel, dvd-mul_left}
use Rattle.std.proofs.lemmas.Bool.{cases_lt}
use Rattle.policy.specs.Laws.{Choice, IsLawfulChoice}
use Rattle.plan.specs.Contents.{Contents, Sound, count, at}
use Rattle.policy.specs.Codes.{coded}
use Rattle.model.specs.Units.{State, left, GoesBefore}
use Rattle.model.specs.Runs.{Run, Late, NeverLate}
use Rattle.literature.specs.Systems.{SystemState, last_needs, Finished, Priority, SystemRun, Schedulable, prefix}
use Rattle.literature.specs.Priorities.{by_principles}
use Rattle.literature.specs.Agreement.{Correspond, SameModel, ArticleAgrees, ArticleAgreesByCodes}
use Rattle.literature.proofs.Executions.{last_is, spent}
use Rattle.literature.proofs.Meeting.{Agrees}
use Rattle.literature.proofs.Together.{current_at}
use Rattle.literature.proofs.There.{there}
use Rattle.literature.proofs.Back.{back}
use Rattle.policy.proofs.Lawful.{coded_lawful}
use Rattle.literature.proofs.Principles.{principles_agree}

-- a time at which somebody may be late ends a period
ends : (o q t : ℕ) → 1 ≤ q → o + q ≤ t → q ∣ t - o → (k : ℕ) × (o + suc k * q ≡ t)
ends o q t pos due turn = go ((t - o) / q) (div-mul_cancel q turn)
  where
    go : (n : ℕ) → n * q ≡ t - o → (k : ℕ) × (o + suc k * q ≡ t)
    go zero e = absurd (omega (arith, zero-mul q))
    go (suc k) e = (k, omega arith)

-- at the end of a period, finished is no time left
ended : (p : Contents) (D : Choice) (run : ℕ → State) (ρ : ℕ → SystemState) (t τ k : ℕ) → Correspond p D run ρ t
    → τ < count p → 1 ≤ (at p τ).period
    → (at p τ).offset + suc k * (at p τ).period ≡ suc t
    → Finished p (prefix ρ (suc t)) (last_needs (prefix ρ (suc t))) τ (suc k) ↔ left (run (suc t)) τ ≡ 0
ended p D run ρ t τ k c l pos e =
    let last = last_is ρ t τ in
    let split = suc-mul k (at p τ).period in
    let now : left (run (suc t)) τ + spent p ρ (suc t) τ (suc k) ≡ (ρ t).needs τ =
    c.after τ (suc k) l (current_at p ρ t τ (suc k) (inr (k, refl, record { from = omega arith; to = omega arith }))) in
    (λ f. omega arith, λ f. omega arith)

module _ (p : Contents) (D : Choice) (Above : Priority) (ok : Sound p) (law : IsLawfulChoice D) (agrees : Agrees p D Above) where
  never_late : Schedulable p Above → NeverLate p D
  never_late good run r t i late =
      go t late (there p D ok run r Above law agrees)
      (ends (at p i).offset (at p i).period t (ok.ranges i late.known).0 late.due late.turn)
    where
      go : (t : ℕ) → Late p t (run t) i → ((ρ : ℕ → SystemState) × SystemRun p Above ρ × ((t : ℕ) → Correspond p D run ρ t))
          → ((k : ℕ) × ((at p i).offset + suc k * (at p i).period ≡ t)) → ⊥
      go zero late w (k, e) = absurd (omega (arith, late.due, (ok.ranges i late.known).0))
      go (suc t) late (ρ, s, c) (k, e) =
          let f = (ended p D run ρ t i k (c t) late.known (ok.ranges i late.known).0 e).0
          (subst (λ (x : ℕ). Finished p (prefix ρ x) (last_needs (prefix ρ x)) i (suc k)) e (good ρ s i (suc k) late.known (omega arith))) in
          omega (arith, late.working)

  schedulable : NeverLate p D → Schedulable p Above
  schedulable never ρ s τ zero l one = absurd (omega arith)
  schedulable never ρ s τ (suc k) l one = go ((at p τ).offset + suc k * (at p τ).period) refl (back p ρ D ok Above law agrees s)
    where
      go : (t : ℕ) → (at p τ).offset + suc k * (at p τ).period ≡ t → ((run : ℕ → State) × Run p D run × ((t : ℕ) → Correspond p D run ρ t))
          → Finished p (prefix ρ t) (last_needs (prefix ρ t)) τ (suc k)
      go zero e w = absurd (omega (arith, suc-mul k (at p τ).period, (ok.ranges τ l).0))
      go (suc t) e (run, r, c) = (ended p D run ρ t τ k (c t) l (ok.ranges τ l).0 e).1 (none (cases_lt 0 (left (run (suc t)) τ)))
        where
          none : (0 < left (run (suc t)) τ) ⊎ (left (run (suc t)) τ ≤ 0) → left (run (suc t)) τ ≡ 0
          none (inr h) = omega arith
          none (inl h) =
              let turn : suc k * (at p τ).period ≡ suc t - (at p τ).offset = omega arith in
              absurd (never run r (suc t) τ
              (record {
                known = l;
                due = omega (arith, suc-mul k (at p τ).period);
                turn = subst (λ (x : ℕ). (at p τ).period ∣ x) turn (dvd-mul_left (at p τ).period (suc k));
                working = h;
              }))

  same_model : SameModel p D Above
  same_model =
      record {
        there = λ run r. there p D ok run r Above law agrees;
        back = λ ρ s. back p ρ D ok Above law agrees s;
        judged = (never_late, schedulable);
      }

pub article_agrees : ArticleAgrees
article_agrees p D ok law = same_model p D (GoesBefore p D) ok law (λ t a b la lb n e. (λ g. g, λ g. g))

pub article_agrees_by_codes : ArticleAgreesByCodes
article_agrees_by_codes p codes ok = same_model p (coded codes) (by_principles p codes) ok (coded_lawful codes) (principles_agree p codes ok)
