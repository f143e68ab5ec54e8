-- The tests of a unit decide what the model asks, and the computed next states are those that the model steps to.
use Rattle.std.proofs.Common.{◌≡◌, ℕ, suc, pred, ◌+◌, ◌-◌, ◌<◌, ◌≤◌, Bool, true, false, cond, not, ◌≢◌, ◌||◌, ◌↔◌, List, [], ◌∷◌, map, length, sym, refl, ap, ◌∙◌, subst, ap₂, zero-add, arith}
use Rattle.std.specs.Prelude.{Decides, ◌==◌, slice_index_or}
use Rattle.std.specs.List.{range_with_len, Contains as Has}
use Rattle.std.specs.Ordering.{nat_cmp}
use Rattle.std.proofs.lemmas.Bool.{cond-true, cond-false}
use Rattle.gather.proofs.Counting.{has_here}
use Rattle.policy.specs.declared.codes.Code.{Code}
use Rattle.policy.specs.declared.codes.Code.TheVariants.{FixedPriority, RateMonotonic, EarliestDeadline}
use Rattle.policy.specs.Codes.{ranks_by, coded}
use Rattle.policy.specs.declared.cores.Core.{Core}
use Rattle.policy.specs.declared.candidates.Candidate.{Candidate}
use Rattle.policy.specs.Deadlines.{distance}
use Rattle.policy.specs.Laws.{Choice}
use Rattle.policy.specs.Meanings.{by_rank}
use Rattle.plan.specs.Contents.{Contents, Sound, count, at}
use Rattle.model.specs.Units.{State, left, Starts, Started, Ready, GoesBefore, Running, Served, Step}
use Rattle.model.proofs.Asking.{OfPlace, of_place, core_of, candidate_of}
use Rattle.model.proofs.Extend.{finish_only}
use Rattle.model.proofs.Lists.{has_only, has_map, has_map_cases, has_counting, counting_has, has_products, products_has, each_from, from_each}
use Rattle.model.proofs.Made.{made_long, made_left}
use Rattle.samples.proofs.Evaluate.{Asks, first_by, asked, starts, times, choices, begun, ready, runs, kept_left, served, nexts}
use Rattle.samples.proofs.Deciding.{lt_decides, le_decides, eq_decides, divides_decides, true_decides, iff_decides, and_decides, unless, arrow_decides, below_decides, fails, fails_where}

-- ---- who goes first

module _ (p : Contents) (codes : List Code) (t i j : ℕ) (c : Core) (x y : Candidate) (a : OfPlace x p i) (b : OfPlace y p j) where
  by_code : (k : Code) → by_rank (ranks_by k c x y t) x.number y.number ≡ first_by k (at p i) (at p j) t i j
  by_code FixedPriority = ap₂ (λ m n. by_rank (nat_cmp m n) m n) a.number b.number
  by_code RateMonotonic =
      ap₂ (λ m n. by_rank (nat_cmp m n) x.number y.number) a.period b.period
      ∙ ap₂ (λ m n. by_rank (nat_cmp (at p i).period (at p j).period) m n) a.number b.number
  by_code EarliestDeadline =
      ap₂ (λ m n. by_rank (nat_cmp (distance m x.offset t) (distance n y.offset t)) x.number y.number) a.period b.period
      ∙ ap₂ (λ m n. by_rank (nat_cmp (distance (at p i).period m t) (distance (at p j).period n t)) x.number y.number) a.offset b.offset
      ∙ ap₂ (λ m n. by_rank (nat_cmp (distance (at p i).period (at p i).offset t) (distance (at p j).period (at p j).offset t)) m n) a.number b.number

  asked_is : c.number ≡ (at p i).core → coded codes c x y t ≡ asked p codes t i j
  asked_is e =
      ap (λ m. by_rank (ranks_by (slice_index_or codes (m - 1) FixedPriority) c x y t) x.number y.number) e
      ∙ by_code (slice_index_or codes ((at p i).core - 1) FixedPriority)

-- the tests answer what the discipline does
abbrev pub Answers : Contents → Choice → Asks → Type 0
Answers p D first = (t i j : ℕ) → i < count p → j < count p → Decides (first t i j) (GoesBefore p D t i j)

pub asked_answers : (p : Contents) (codes : List Code) → Sound p → Answers p (coded codes) (asked p codes)
asked_answers p codes ok t i j h k = (
  λ e. let c = core_of p ok i h in
      let x = candidate_of p ok i h in
      let y = candidate_of p ok j k in
      record {
        core = c.0;
        one = x.0;
        other = y.0;
        on = c.1;
        is_one = x.1;
        is_other = y.1;
        named = asked_is p codes t i j c.0 x.0 y.0 (of_place x.0 p i x.1) (of_place y.0 p j y.1) c.1 ∙ e;
      },
  λ g. sym (asked_is p codes t i j g.core g.one g.other (of_place g.one p i g.is_one) (of_place g.other p j g.is_other) g.on) ∙ g.named,
)

-- ---- who starts, and with what

module _ (p : Contents) where
  pub starts_decides : (t i : ℕ) → Decides (starts p t i) (Starts p t i)
  starts_decides t i =
      and_decides _ _ (le_decides (at p i).offset t) (divides_decides (at p i).period (t - (at p i).offset))

  has_begun : (t : ℕ) (s u : State) → Started p t s u → Has (begun p t s) u
  has_begun t s u st =
      has_products u (map (choices p t s) (range_with_len 0 (count p)))
      (each_from (choices p t s) 0 (count p) u st.long
      (λ i h. subst (λ (k : ℕ). Has (choices p t s k) (left u i)) (sym (zero-add i)) (here i h (starts p t i) (starts_decides t i))))
    where
      here : (i : ℕ) → i < count p → (b : Bool) → Decides b (Starts p t i) → Has (cond b (times p i) (left s i ∷ [])) (left u i)
      here i h true d =
          let b : ((at p i).shortest ≤ left u i) × (left u i ≤ (at p i).longest) = st.fresh i h (d.0 refl) in
          has_counting (at p i).shortest (suc (at p i).longest - (at p i).shortest) (left u i) b.0 (omega arith)
      here i h false d =
          subst (Has (left s i ∷ [])) (sym (st.same i h (fails d refl))) (has_here (left s i) [])

  begun_has : (t : ℕ) (s u : State) → Has (begun p t s) u → Started p t s u
  begun_has t s u h =
      record {
        long = r.0;
        fresh = λ i l y.
            let b = counting_has (at p i).shortest (suc (at p i).longest - (at p i).shortest) (left u i)
            (subst (λ (x : List ℕ). Has x (left u i)) (cond-true (starts p t i) (times p i) (left s i ∷ []) ((starts_decides t i).1 y)) (here i l)) in
            (b.0, omega (arith, b.0, b.1));
        same = λ i l n. sym (has_only (left s i) (left u i)
            (subst (λ (x : List ℕ). Has x (left u i)) (cond-false (starts p t i) (times p i) (left s i ∷ []) (fails_where (starts p t i) (starts_decides t i) n)) (here i l)));
      }
    where
      r : (length u ≡ count p) × ((i : ℕ) → i < count p → Has (choices p t s (0 + i)) (left u i))
      r = from_each (choices p t s) 0 (count p) u (products_has u (map (choices p t s) (range_with_len 0 (count p))) h)

      here : (i : ℕ) → i < count p → Has (choices p t s i) (left u i)
      here i l = subst (λ (k : ℕ). Has (choices p t s k) (left u i)) (zero-add i) (r.1 i l)

-- ---- who runs

module _ (p : Contents) (ok : Sound p) where
  Clear : State → ℕ → ℕ → Type 0
  Clear u i a = p.joined a i ≡ true → left u a ≡ 0

  pub ready_decides : (u : State) (i : ℕ) → Decides (ready p u i) (Ready p u i)
  unfolding Clear
  ready_decides u i =
      iff_decides {P = (0 < left u i) × ((a : ℕ) → a < count p → Clear u i a)}
      (λ f. record { working = f.0; waits = λ a j. f.1 a (ok.inside a i j).0 j }, λ r. (r.working, λ a h j. r.waits a j))
      (and_decides _ _ (lt_decides 0 (left u i))
      (below_decides (count p) (λ a. not (p.joined a i) || left u a == 0) (Clear u i)
      (λ a h. arrow_decides _ _ (true_decides (p.joined a i)) (eq_decides (left u a) 0))))

  module _ (D : Choice) (first : Asks) (right : Answers p D first) where
    Yields : ℕ → State → ℕ → ℕ → Type 0
    Yields t u i j = j ≢ i → (at p j).core ≡ (at p i).core → Ready p u j → GoesBefore p D t i j

    pub runs_decides : (t : ℕ) (u : State) (i : ℕ) → i < count p → Decides (runs p first t u i) (Running p D t u i)
    unfolding Yields
    runs_decides t u i h =
        iff_decides {P = Ready p u i × ((j : ℕ) → j < count p → Yields t u i j)}
        (λ f. record { ready = f.0; first = f.1 }, λ r. (r.ready, r.first))
        (and_decides _ _ (ready_decides u i)
        (below_decides (count p) (λ j. j == i || (not ((at p j).core == (at p i).core) || (not (ready p u j) || first t i j))) (Yields t u i)
        (λ j k. unless _ _ (eq_decides j i)
        (arrow_decides _ _ (eq_decides (at p j).core (at p i).core)
        (arrow_decides _ _ (ready_decides u j) (right t i j h k))))))

    served_ok : (t : ℕ) (u : State) → Served p D t u (served p first t u)
    served_ok t u =
        record {
          long = made_long (count p) (kept_left p first t u);
          ran = λ i h r.
              let e : left (served p first t u) i ≡ pred (left u i) =
              made_left (count p) (kept_left p first t u) i h ∙ cond-true (runs p first t u i) (pred (left u i)) (left u i) ((runs_decides t u i h).1 r) in
              let w : 0 < left u i = r.ready.working in
              omega arith;
          waited = λ i h n. made_left (count p) (kept_left p first t u) i h ∙ still i h n;
        }
      where
        still : (i : ℕ) → i < count p → ¬ Running p D t u i → kept_left p first t u i ≡ left u i
        still i h n =
            cond-false (runs p first t u i) (pred (left u i)) (left u i)
            (fails_where (runs p first t u i) (runs_decides t u i h) n)

    served_only : (t : ℕ) (u v : State) → Served p D t u v → v ≡ served p first t u
    served_only t u v s = finish_only p D ok t u v s ∙ sym (finish_only p D ok t u (served p first t u) (served_ok t u))

    pub step_nexts : (t : ℕ) (s v : State) → Step p D t s v ↔ Has (nexts p first t s) v
    step_nexts t s v = (
      λ st. subst (Has (nexts p first t s)) (sym (served_only t st.0 v st.2))
          (has_map (served p first t) st.0 (begun p t s) (has_begun p t s st.0 st.1)),
      λ h. let r = has_map_cases (served p first t) v (begun p t s) h in
          (r.0, begun_has p t s r.0 r.1, subst (Served p D t r.0) r.2 (served_ok t r.0)),
    )
