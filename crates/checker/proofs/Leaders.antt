-- Those that lead on their cores: what the loop over an order keeps, and that they are the ones that run.
use Rattle.std.proofs.Common.{◌≡◌, ℕ, suc, ◌+◌, ◌-◌, ◌<◌, ◌≤◌, Bool, true, false, List, length, get_or, take, drop, set, sym, refl, ap, ◌∙◌, subst, inl, inr, arith, true≢false, Decides}
use Rattle.std.proofs.lemmas.List.{get_or-take, length-take-le, length-set, get_or-set_same, get_or-set_other}
use Rattle.std.proofs.lemmas.Bool.{cases_eq, cases_order}
use Rattle.policy.specs.Laws.{Choice, IsLawfulChoice}
use Rattle.plan.specs.Contents.{Contents, Sound, count, at}
use Rattle.model.specs.Units.{State, left, Ready, Running, Served}
use Rattle.model.proofs.Asking.{before_not_both}
use Rattle.checker.specs.Orders.{EachOnce, JoinedBefore, AllDone, InOrder, Leads, LostBy}
use Rattle.checker.proofs.Listing.{found}
use Rattle.checker.proofs.Reading.{drop_same}

-- the number of the core of the k-th of the list
abbrev pub core_of : Contents → List ℕ → ℕ → ℕ
core_of p places k = (at p (get_or places k 0)).core

-- a ready one of the core is among the first n
pub record Taken (p : Contents) (u : State) (places : List ℕ) (n c : ℕ) : Type 0 where
  pub index : ℕ
  pub below : index < n
  pub on : core_of p places index ≡ c
  pub ready : Ready p u (get_or places index 0)

-- the cores that are busy are those of which a ready one is among the first n
pub record Busy (p : Contents) (u : State) (places : List ℕ) (n : ℕ) (busy : List Bool) : Type 0 where
  pub long : length busy ≡ 9
  pub taken : (c : ℕ) → get_or busy c false ≡ true → Taken p u places n c
  pub free : (c : ℕ) → c < 9 → get_or busy c false ≡ false → ¬ Taken p u places n c

module _ (p : Contents) (u : State) (places was : List ℕ) where
  pub lost_none : LostBy p u places was 0 was
  lost_none = record { long = refl; lost = λ k l. absurd (omega arith); kept = λ i n. refl }

  module _ (n : ℕ) where
    pub lost_skip : (now : List ℕ) → ¬ Leads p u places n → LostBy p u places was n now → LostBy p u places was (n + 1) now
    lost_skip now lacks before = record {
      long = before.long;
      lost = λ k l leads. elim (cases_eq k n) [ inl e ↦ absurd (lacks (subst (Leads p u places) e leads)) | inr ne ↦ before.lost k (omega arith) leads ];
      kept = λ i none. before.kept i (λ k l leads. none k (omega arith) leads);
    }

    module _ (each : EachOnce p places) (inside : n < length places) (leads : Leads p u places n) (now : List ℕ) (before : LostBy p u places was n now) where
      -- it has not lost its unit yet
      still : get_or now (get_or places n 0) 0 ≡ get_or was (get_or places n 0) 0
      still = before.kept (get_or places n 0) (λ k l _. each.once k n l inside)

      pub leader_works : u ≡ take (count p) was → 1 ≤ get_or now (get_or places n 0) 0
      leader_works e =
          let works : 0 < get_or (take (count p) was) (get_or places n 0) 0 = subst (λ (x : State). 0 < left x (get_or places n 0)) e leads.ready.working in
          omega (arith, still, works, get_or-take (count p) was (get_or places n 0) 0 (each.known n inside))

      pub lost_take : (few : count p ≤ 64) → length was ≡ 64 → 1 ≤ get_or now (get_or places n 0) 0
          → LostBy p u places was (n + 1) (set now (get_or places n 0) (get_or now (get_or places n 0) 0 - 1))
      lost_take few whole works =
          let i = get_or places n 0 in
          let spent = get_or now i 0 - 1 in
          record {
            long = length-set now i spent ∙ before.long;
            lost = λ k l h.
                elim (cases_eq k n) [
                  | inl e ↦ rw e (omega (arith, get_or-set_same now i spent 0 (omega (arith, few, each.known n inside, before.long, whole)), still, works))
                  | inr ne ↦
                      (let below : k < n = omega arith in
                      before.lost k below h ∙ ap suc (sym (get_or-set_other now i (get_or places k 0) spent 0 (each.once k n below inside))))
                ];
            kept = λ j none.
                get_or-set_other now i j spent 0 (λ e. none n (omega arith) leads (sym e)) ∙ before.kept j (λ k l h. none k (omega arith) h);
          }

  pub busy_none : (busy : List Bool) → length busy ≡ 9 → ((c : ℕ) → get_or busy c false ≡ false) → Busy p u places 0 busy
  busy_none busy long none = record {
    long = long;
    taken = λ c e. absurd (true≢false (sym e ∙ none c));
    free = λ c l e taken. omega (arith, taken.below);
  }

  module _ (n : ℕ) (busy : List Bool) (before : Busy p u places n busy) where
    more : (c : ℕ) → Taken p u places n c → Taken p u places (n + 1) c
    more c taken = record { index = taken.index; below = omega (arith, taken.below); on = taken.on; ready = taken.ready }

    fewer : (c : ℕ) → ¬ (core_of p places n ≡ c × Ready p u (get_or places n 0)) → Taken p u places (n + 1) c → Taken p u places n c
    fewer c lacks taken =
        elim (cases_eq taken.index n) [
          | inl e ↦ absurd (lacks (subst (λ k. core_of p places k ≡ c) e taken.on, subst (λ k. Ready p u (get_or places k 0)) e taken.ready))
          | inr ne ↦ record { index = taken.index; below = omega (arith, taken.below); on = taken.on; ready = taken.ready }
        ]

    -- on a busy core nobody else leads
    pub busy_core : get_or busy (core_of p places n) false ≡ true → ¬ Leads p u places n
    busy_core e leads =
        let taken = before.taken (core_of p places n) e in
        leads.first taken.index taken.below taken.on taken.ready

    pub busy_same : get_or busy (core_of p places n) false ≡ true → Busy p u places (n + 1) busy
    busy_same e = record {
      long = before.long;
      taken = λ c h. more c (before.taken c h);
      free = λ c l h taken. before.free c l h (fewer c (λ x. true≢false (sym e ∙ ap (λ k. get_or busy k false) x.0 ∙ h)) taken);
    }

    pub busy_idle : ¬ Ready p u (get_or places n 0) → Busy p u places (n + 1) busy
    busy_idle idle = record {
      long = before.long;
      taken = λ c h. more c (before.taken c h);
      free = λ c l h taken. before.free c l h (fewer c (λ x. idle x.1) taken);
    }

    module _ (low : core_of p places n < 9) (ready : Ready p u (get_or places n 0)) where
      pub free_core : get_or busy (core_of p places n) false ≡ false → Leads p u places n
      free_core e = record {
        ready = ready;
        first = λ m l on other. before.free (core_of p places n) low e (record { index = m; below = l; on = on; ready = other });
      }

      pub busy_more : Busy p u places (n + 1) (set busy (core_of p places n) true)
      busy_more =
          let mine = core_of p places n in
          record {
            long = length-set busy mine true ∙ before.long;
            taken = λ c h.
                elim (cases_eq c mine) [
                  | inl e ↦ record { index = n; below = omega arith; on = sym e; ready = ready }
                  | inr ne ↦ more c (before.taken c (sym (get_or-set_other busy mine c true false ne) ∙ h))
                ];
            free = λ c l h taken.
                elim (cases_eq c mine) [
                  | inl e ↦
                      (let same : get_or (set busy mine true) c false ≡ true = rw e (get_or-set_same busy mine true false (omega (arith, before.long))) in
                      true≢false (sym same ∙ h))
                  | inr ne ↦
                      before.free c l (sym (get_or-set_other busy mine c true false ne) ∙ h) (fewer c (λ x. ne (sym x.0)) taken)
                ];
          }

-- ---- in an order, those that lead are those that run

module _ (p : Contents) (D : Choice) (t : ℕ) (u : State) (places : List ℕ) (each : EachOnce p places) (order : InOrder p D t places) where
  pub leads_runs : (k : ℕ) → k < length places → Leads p u places k → Running p D t u (get_or places k 0)
  leads_runs k inside leads = record {
    ready = leads.ready;
    first = λ j l ne on ready.
        let f = found places j (each.each j l) in
        elim (cases_order k f.index) [
          | inl e ↦ absurd (ne (sym f.is ∙ ap (λ i. get_or places i 0) (sym e)))
          | inr (inl h) ↦ rw f.is at (order k f.index h f.inside (sym on ∙ ap (λ i. (at p i).core) (sym f.is)))
          | inr (inr h) ↦ absurd (leads.first f.index h (ap (λ i. (at p i).core) f.is ∙ on) (subst (Ready p u) (sym f.is) ready))
        ];
  }

  pub runs_leads : IsLawfulChoice D → (k : ℕ) → k < length places → Running p D t u (get_or places k 0) → Leads p u places k
  runs_leads law k inside runs = record {
    ready = runs.ready;
    first = λ m l on ready.
        let before = order m k l inside on in
        let apart = each.once m k l inside in
        before_not_both p D law t (get_or places m 0) (get_or places k 0) (λ e. apart (sym e)) (sym on) before
        (runs.first (get_or places m 0) (each.known m (omega arith)) apart on ready);
  }

  module _ (law : IsLawfulChoice D) (was now : List ℕ) (few : count p ≤ 64) (whole : length was ≡ 64) (is : u ≡ take (count p) was)
      (lost : LostBy p u places was (length places) now) where
    pub leaders_served : Served p D t u (take (count p) now)
    leaders_served = record {
      long = length-take-le (count p) now (omega (arith, few, lost.long, whole));
      ran = λ i l runs.
          let f = found places i (each.each i l) in
          let leads = runs_leads law f.index f.inside (subst (Running p D t u) (sym f.is) runs) in
          ap (λ (x : State). left x i) is ∙ get_or-take (count p) was i 0 l ∙ rw f.is at (lost.lost f.index f.inside leads) ∙ ap suc (sym (get_or-take (count p) now i 0 l));
      waited = λ i l waits.
          get_or-take (count p) now i 0 l ∙ lost.kept i (λ k h leads e. waits (subst (Running p D t u) e (leads_runs k h leads)))
          ∙ sym (get_or-take (count p) was i 0 l) ∙ ap (λ (x : State). left x i) (sym is);
    }

module _ (p : Contents) (u : State) (places : List ℕ) (each : EachOnce p places) (was now : List ℕ) where
  pub leaders_rest : LostBy p u places was (length places) now → drop (count p) now ≡ drop (count p) was
  leaders_rest lost = drop_same (count p) now was lost.long (λ i h. lost.kept i (λ k l _ e. omega (arith, each.known k l, e)))

-- what asking of those that are joined before tells of one with time left
pub joined_told : (p : Contents) → Sound p → (s : List ℕ) (i word : ℕ) → JoinedBefore p i word → i < count p → 0 < get_or s i 0 → (r : Bool)
    → Decides r (AllDone s word) → Decides r (Ready p (take (count p) s) i)
joined_told p ok s i word joined l works r told = (
  λ e. record {
    working = rw (get_or-take (count p) s i 0 l) works;
    waits = λ a j. get_or-take (count p) s a 0 (ok.inside a i j).0 ∙ told.0 e a ((joined.bits a).1 j);
  },
  λ ready.
      told.1 (λ a b.
      let j = (joined.bits a).0 b in
      sym (get_or-take (count p) s a 0 (ok.inside a i j).0) ∙ ready.waits a j),
)
