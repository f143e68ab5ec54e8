-- What is known of asking the discipline about two places.
use Rattle.std.proofs.Common.{◌≡◌, ℕ, suc, ◌+◌, ◌-◌, ◌<◌, ◌≤◌, Bool, true, false, not, ◌≢◌, ◌↔◌, sym, refl, ap, ◌∙◌, subst, true≢false, arith}
use Prim.Native.Nat.{◌∣◌}
use native.Mathlib.Nat.{suc_inj}
use denote.Struct.Record.{values_one}
use Rattle.policy.specs.declared.cores.Core.{Core}
use Rattle.policy.specs.declared.candidates.Candidate.{Candidate}
use Rattle.policy.specs.contracts.cores.Core as core_type
use Rattle.policy.specs.contracts.candidates.Candidate as candidate_type
use Rattle.policy.specs.Laws.{Choice, IsLawfulChoice, Apart}
use Rattle.plan.specs.Contents.{Contents, Sound, count, at, StandsFor}
use Rattle.model.specs.Units.{GoesBefore}

-- ---- cores and candidates

-- `suc i - 1` does not compute: what stands for the number of a place, in terms of the place
pub record OfPlace (x : Candidate) (p : Contents) (i : ℕ) : Type 0 where
  pub number : x.number ≡ suc i
  pub period : x.period ≡ (at p i).period
  pub offset : x.offset ≡ (at p i).offset

place_number : (i : ℕ) → suc i - 1 ≡ i
place_number i = omega arith

pub of_place : (x : Candidate) (p : Contents) (i : ℕ) → StandsFor x p (suc i) → OfPlace x p i
of_place x p i s =
    record {
      number = s.number;
      period = s.period ∙ ap (λ (k : ℕ). (at p k).period) (place_number i);
      offset = s.offset ∙ ap (λ (k : ℕ). (at p k).offset) (place_number i);
    }

pub core_of : (p : Contents) → Sound p → (i : ℕ) → i < count p → (c : Core) × (c.number ≡ (at p i).core)
core_of p ok i h = let r = ok.ranges i h in (record { number = (at p i).core; low = r.3; high = r.4 }, refl)

pub candidate_of : (p : Contents) → Sound p → (i : ℕ) → i < count p → (x : Candidate) × StandsFor x p (suc i)
candidate_of p ok i h =
    let r = ok.ranges i h in
    let few : count p ≤ 64 = ok.few in (
      record {
        number = suc i;
        period = (at p i).period;
        offset = (at p i).offset;
        low = omega arith;
        high = omega arith;
        comes = r.0;
        period_fits = r.5.0;
        offset_fits = r.5.1;
      },
      record {
        number = refl;
        period = ap (λ (k : ℕ). (at p k).period) (sym (place_number i));
        offset = ap (λ (k : ℕ). (at p k).offset) (sym (place_number i));
      },
    )

pub core_one : (c d : Core) → c.number ≡ d.number → c ≡ d
core_one c d e = values_one core_type.struct core_type.the_propositions c d cc

pub stands_one : (p : Contents) (n : ℕ) (x y : Candidate) → StandsFor x p n → StandsFor y p n → x ≡ y
stands_one p n x y a b =
    let e : x.number ≡ y.number = a.number ∙ sym b.number in
    let f : x.period ≡ y.period = a.period ∙ sym b.period in
    let g : x.offset ≡ y.offset = a.offset ∙ sym b.offset in
    values_one candidate_type.struct candidate_type.the_propositions x y cc

-- ---- the answers

-- the answer is the same whichever core and candidates stand for the places
pub before_answer : (p : Contents) (D : Choice) (t i j : ℕ) (c : Core) (x y : Candidate) → c.number ≡ (at p i).core
    → StandsFor x p (suc i) → StandsFor y p (suc j) → GoesBefore p D t i j → D c x y t ≡ true
before_answer p D t i j c x y e a b g =
    let ec : c ≡ g.core = core_one c g.core (e ∙ sym g.on) in
    let ex : x ≡ g.one = stands_one p (suc i) x g.one a g.is_one in
    let ey : y ≡ g.other = stands_one p (suc j) y g.other b g.is_other in
    let named : D g.core g.one g.other t ≡ true = g.named in
    cc

pub before_decided : (p : Contents) (D : Choice) → Sound p → (t i j : ℕ) → i < count p → j < count p → Dec (GoesBefore p D t i j)
before_decided p D ok t i j h k = go (core_of p ok i h) (candidate_of p ok i h) (candidate_of p ok j k)
  where
    go : ((c : Core) × (c.number ≡ (at p i).core)) → ((x : Candidate) × StandsFor x p (suc i)) → ((y : Candidate) × StandsFor y p (suc j))
        → Dec (GoesBefore p D t i j)
    go (c, e) (x, a) (y, b) = by (D c x y t) refl
      where
        by : (r : Bool) → D c x y t ≡ r → Dec (GoesBefore p D t i j)
        by true q = yes (record { core = c; one = x; other = y; on = e; is_one = a; is_other = b; named = q })
        by false q = no (λ g. true≢false (sym (before_answer p D t i j c x y e a b g) ∙ q))

pub places_apart : (p : Contents) (i j : ℕ) (x y : Candidate) → j ≢ i → StandsFor x p (suc i) → StandsFor y p (suc j) → Apart x y
places_apart p i j x y n a b e = n (suc_inj (sym b.number ∙ sym e ∙ a.number))

not_true : (b : Bool) → (b ≡ true → ⊥) → not b ≡ true
not_true true n = absurd (n refl)
not_true false n = refl

not_and_true : (b : Bool) → b ≡ true → not b ≡ true → ⊥
not_and_true b e f = true≢false (sym f ∙ ap not e)

pub before_turns : (p : Contents) (D : Choice) → Sound p → IsLawfulChoice D → (t i j : ℕ) → i < count p → j < count p → j ≢ i
    → (at p j).core ≡ (at p i).core → ¬ GoesBefore p D t i j → GoesBefore p D t j i
before_turns p D ok law t i j h k n e not_first = go (core_of p ok i h) (candidate_of p ok i h) (candidate_of p ok j k)
  where
    go : ((c : Core) × (c.number ≡ (at p i).core)) → ((x : Candidate) × StandsFor x p (suc i)) → ((y : Candidate) × StandsFor y p (suc j))
        → GoesBefore p D t j i
    go (c, f) (x, a) (y, b) =
        record {
          core = c;
          one = y;
          other = x;
          on = f ∙ sym e;
          is_one = b;
          is_other = a;
          named = law.reverses c x y t (places_apart p i j x y n a b)
              ∙ not_true (D c x y t) (λ q. not_first (record { core = c; one = x; other = y; on = f; is_one = a; is_other = b; named = q }));
        }

pub before_not_both : (p : Contents) (D : Choice) → IsLawfulChoice D → (t i j : ℕ) → j ≢ i → (at p j).core ≡ (at p i).core
    → GoesBefore p D t i j → GoesBefore p D t j i → ⊥
before_not_both p D law t i j n e g r =
    let back : D g.core g.other g.one t ≡ true =
    before_answer p D t j i g.core g.other g.one (g.on ∙ sym e) g.is_other g.is_one r in
    not_and_true (D g.core g.one g.other t) g.named
    (sym (law.reverses g.core g.one g.other t (places_apart p i j g.one g.other n g.is_one g.is_other)) ∙ back)

pub before_carries : (p : Contents) (D : Choice) → IsLawfulChoice D → (t i j k : ℕ) → i ≢ j → j ≢ k → i ≢ k
    → (at p i).core ≡ (at p j).core → GoesBefore p D t i j → GoesBefore p D t j k → GoesBefore p D t i k
before_carries p D law t i j k nij njk nik e g r =
    record {
      core = g.core;
      one = g.one;
      other = r.other;
      on = g.on;
      is_one = g.is_one;
      is_other = r.is_other;
      named = law.carries g.core g.one g.other r.other t
          (places_apart p i j g.one g.other (λ z. nij (sym z)) g.is_one g.is_other)
          (places_apart p j k g.other r.other (λ z. njk (sym z)) g.is_other r.is_other)
          (places_apart p i k g.one r.other (λ z. nik (sym z)) g.is_one r.is_other)
          g.named
          (before_answer p D t j k g.core g.other r.other (g.on ∙ e) g.is_other r.is_other r);
    }

-- once both are released, the answer is the same a common multiple of their periods later
pub before_later : (p : Contents) (D : Choice) → IsLawfulChoice D → (t q i j : ℕ) → j ≢ i → (at p i).offset ≤ t → (at p j).offset ≤ t
    → (at p i).period ∣ q → (at p j).period ∣ q → GoesBefore p D t i j ↔ GoesBefore p D (t + q) i j
before_later p D law t q i j n oi oj pi pj = (λ g. go t (t + q) g (same g), λ g. go (t + q) t g (sym (same g)))
  where
    same : {e : ℕ} (g : GoesBefore p D e i j) → D g.core g.one g.other (t + q) ≡ D g.core g.one g.other t
    same g =
        let a : OfPlace g.one p i = of_place g.one p i g.is_one in
        let b : OfPlace g.other p j = of_place g.other p j g.is_other in
        law.repeats g.core g.one g.other t q (places_apart p i j g.one g.other n g.is_one g.is_other)
        (record {
          began_a = omega arith;
          began_b = omega arith;
          whole_a = subst (λ (x : ℕ). x ∣ q) (sym a.period) pi;
          whole_b = subst (λ (x : ℕ). x ∣ q) (sym b.period) pj;
        })

    go : (e f : ℕ) (g : GoesBefore p D e i j) → D g.core g.one g.other f ≡ D g.core g.one g.other e → GoesBefore p D f i j
    go e f g s = record { core = g.core; one = g.one; other = g.other; on = g.on; is_one = g.is_one; is_other = g.is_other; named = s ∙ g.named }
