-- What the tests of an accepted call let through, that nothing else is refused, and what a plan begins with.
use Rattle.std.proofs.Common.{◌≡◌, ℕ, ◌+◌, ◌-◌, ◌<◌, ◌≤◌, ◌≢◌, ◌⊎◌, Ok, Err, is_ok, refl, sym, ap, inl, inr, true≢false, arith}
use Rattle.std.proofs.lemmas.Bool.{cases_eq, cases_lt}
use Rattle.plan.specs.declared.handlers.Handler.{Handler}
use Rattle.plan.specs.Rows.{FitsWords, longest_round}
use Rattle.plan.specs.Joins.{Chain, one, more}
use Rattle.plan.specs.Contents.{Contents, count, at, Known, round, empty, Sound}
use Rattle.plan.specs.Calls.{added, with_join, Takes, MayJoin, MaySeat, Registers, Joins, Reseats}

-- a call that answers Ok has passed the test, and the rest of the tests let it through
pub passed : {A E P Q : Type 0} {x : A} {why : E} → (P × (Ok x ≡ Err why)) ⊎ ((P → ⊥) × Q) → (P → ⊥) × Q
passed (inl r) = absurd (true≢false (ap is_ok r.1))
passed (inr r) = r

above : (x y : ℕ) → ¬ (x < y) → y ≤ x
above x y not = elim (cases_lt x y) [ inl l ↦ absurd (not l) | inr g ↦ g ]

some : (x : ℕ) → ¬ (x ≡ 0) → 1 ≤ x
some x not = above x 1 (λ l. not (omega arith))

same : (x y : ℕ) → ¬ (x ≢ y) → x ≡ y
same x y not = elim (cases_eq x y) [ inl e ↦ e | inr ne ↦ absurd (not ne) ]

is_known : (k : Contents) (n : ℕ) → ¬ ¬ Known k n → Known k n
is_known k n not = (above n 1 (λ l. not (λ q. omega (arith, l, q.0))), above (count k) n (λ l. not (λ q. omega (arith, l, q.1))))

-- the tests let these through
module _ (k next : Contents) where
  pub may_take : (h : Handler) (n : ℕ) → FitsWords h → Registers k h (Ok n) next → Takes k h
  may_take h n fits m =
      let room = passed m.answers in
      let period = passed room.1 in
      let times = passed period.1 in
      let core = passed times.1 in
      let short = passed core.1 in
      record {
        room = omega (arith, above 63 (count k) (λ l. room.0 (omega (arith, l))));
        range = (
          some h.period period.0,
          some h.shortest (λ e. times.0 (inl e)),
          above h.longest h.shortest (λ l. times.0 (inr l)),
          some h.core (λ e. core.0 (inl e)),
          above 8 h.core (λ l. core.0 (inr l)),
          fits,
        );
        short = above longest_round (round (added k h)) short.0;
      }

  pub may_join : (a b : ℕ) (u : Unit {0}) → Joins k a b (Ok u) next → MayJoin k a b
  may_join a b u m =
      let known = passed m.answers in
      let timed = passed known.1 in
      let straight = passed timed.1 in
      record {
        known_a = is_known k a (λ q. known.0 (inl q));
        known_b = is_known k b (λ q. known.0 (inr q));
        periods = same (at k (a - 1)).period (at k (b - 1)).period (λ ne. timed.0 (inl ne));
        offsets = same (at k (a - 1)).offset (at k (b - 1)).offset (λ ne. timed.0 (inr ne));
        straight = straight.0;
      }

  pub may_seat : (n c : ℕ) (u : Unit {0}) → Reseats k n c (Ok u) next → MaySeat k n c
  may_seat n c u m =
      let known = passed m.answers in
      let core = passed known.1 in
      record { known = is_known k n known.0; low = some c (λ e. core.0 (inl e)); high = above 8 c (λ l. core.0 (inr l)) }

-- ---- what no test refuses is accepted

pub neither : {P Q : Type 0} → ¬ P → ¬ Q → ¬ (P ⊎ Q)
neither p q (inl x) = p x
neither p q (inr x) = q x

pub taken_registers : (k : Contents) (h : Handler) → Takes k h → Registers k h (Ok (count k + 1)) (added k h)
taken_registers k h t =
    let times : ¬ ((h.shortest ≡ 0) ⊎ (h.longest < h.shortest)) = neither (λ e. omega (arith, e, t.range.1)) (λ l. omega (arith, l, t.range.2)) in
    let core : ¬ ((h.core ≡ 0) ⊎ (8 < h.core)) = neither (λ e. omega (arith, e, t.range.3)) (λ l. omega (arith, l, t.range.4)) in
    record {
      answers = inr (λ l. omega (arith, l, t.room), inr (λ e. omega (arith, e, t.range.0), inr (times, inr (core, inr (λ l. omega (arith, l, t.short), refl)))));
      leaves = refl;
    }

pub taken_joins : (k : Contents) (a b : ℕ) → MayJoin k a b → Joins k a b (Ok tt) (with_join k a b)
taken_joins k a b m = record {
  answers = inr (neither (λ n. n m.known_a) (λ n. n m.known_b), inr (neither (λ n. n m.periods) (λ n. n m.offsets), inr (m.straight, refl)));
  leaves = refl;
}

-- ---- a new plan

pub empty_sound : Sound empty
empty_sound = record {
  few = omega arith;
  ranges = λ i l. absurd (omega arith);
  short = omega arith;
  inside = λ a b j. absurd (true≢false (sym j));
  periods = λ a b j. absurd (true≢false (sym j));
  offsets = λ a b j. absurd (true≢false (sym j));
  no_circle = λ a c. no_chain c;
}
  where
    no_chain : {a b : ℕ} → Chain empty.joined a b → ⊥
    no_chain (one j) = true≢false (sym j)
    no_chain (more j c) = no_chain c
