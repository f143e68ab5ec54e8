-- One handler more in the search for the first of each core.
use Rattle.std.proofs.Common.{◌≡◌, ℕ, suc, ◌+◌, ◌-◌, ◌<◌, ◌≢◌, Bool, true, false, Some, None, Option, List, length, get_or, set, sym, ◌∙◌, subst, inl, inr, arith, MatchOption, get_or-set_same, get_or-set_other}
use Rattle.std.proofs.lemmas.Bool.{cases_eq}
use Rattle.std.proofs.lemmas.List.{get_or_default}
use Rattle.policy.specs.declared.cores.Core.{Core}
use Rattle.policy.specs.declared.candidates.Candidate.{Candidate}
use Rattle.policy.specs.Laws.{Choice, IsLawfulChoice}
use Rattle.plan.specs.Contents.{Contents, at, StandsFor}
use Rattle.model.specs.Units.{State, Ready}
use Rattle.model.proofs.Asking.{core_one}
use Rattle.checker.specs.Choosing.{FirstBelow}
use Rattle.checker.proofs.Leading.{first_skips, first_stays, first_yields}

-- what a test of the candidate that may be there tells, in the discipline's words
pub told_of : {Q : Candidate → Type 0} (b : Bool) (wins : Candidate → Bool) (was : Option Candidate) → MatchOption was (b ≡ false) Q
    → ((x : Candidate) → Q x → b ≡ wins x) → MatchOption was (b ≡ false) (λ x. b ≡ wins x)
told_of b wins None h told = h
told_of b wins (Some x) h told = told x h

module _ (p : Contents) (D : Choice) (law : IsLawfulChoice D) (t : ℕ) (u : State) (n : ℕ) (best : List (Option Candidate))
    (before : (c : Core) → FirstBelow p D t u c n (get_or best (c.number - 1) None)) where
  place_is : n + 1 - 1 ≡ n
  place_is = omega arith

  -- one that is not ready
  pub pass_skips : ¬ Ready p u (n + 1 - 1) → (c : Core) → FirstBelow p D t u c (n + 1) (get_or best (c.number - 1) None)
  pass_skips lacks c = first_skips p D law t u c n (get_or best (c.number - 1) None) (λ x. lacks (subst (Ready p u) (sym place_is) x.1)) (before c)

  -- one that was asked about with the first of its core
  module _ (whole : length best ≡ 8) (k : Core) (next : Candidate) (seen : ((at p (n + 1 - 1)).core ≡ k.number) × StandsFor next p (n + 1))
      (place : ℕ) (here : place ≡ k.number - 1) (was : Option Candidate) (read : was ≡ get_or best place was)
      (beaten : Bool) (answer : MatchOption was (beaten ≡ false) (λ x. beaten ≡ D k x next t)) where
    inside : place < length best
    inside = omega (arith, whole, here, k.low, k.high)

    on : (at p n).core ≡ k.number
    on = subst (λ i. (at p i).core ≡ k.number) place_is seen.0

    stands : StandsFor next p (suc n)
    stands = subst (StandsFor next p) (omega arith) seen.1

    was_there : get_or best (k.number - 1) None ≡ was
    was_there = subst (λ i. get_or best i None ≡ was) here (get_or_default best place None was inside ∙ sym read)

    held : FirstBelow p D t u k n was
    held = subst (FirstBelow p D t u k n) was_there (before k)

    -- the first of another core
    other : (c : Core) → c.number ≢ k.number → FirstBelow p D t u c (n + 1) (get_or best (c.number - 1) None)
    other c ne = first_skips p D law t u c n (get_or best (c.number - 1) None) (λ x. ne (sym x.0 ∙ on)) (before c)

    pub pass_stays : beaten ≡ true → (c : Core) → FirstBelow p D t u c (n + 1) (get_or best (c.number - 1) None)
    pass_stays won c =
        elim (cases_eq c.number k.number) [
          | inl e ↦
              subst (λ (x : Core). FirstBelow p D t u x (n + 1) (get_or best (x.number - 1) None)) (sym (core_one c k e))
              (subst (FirstBelow p D t u k (n + 1)) (sym was_there) (first_stays p D law t u k n next stands beaten was won answer held))
          | inr ne ↦ other c ne
        ]

    pub pass_yields : beaten ≡ false → Ready p u (n + 1 - 1) → (c : Core) → FirstBelow p D t u c (n + 1) (get_or (set best place (Some next)) (c.number - 1) None)
    pass_yields lost ready c =
        elim (cases_eq c.number k.number) [
          | inl e ↦
              (let mine : FirstBelow p D t u k (n + 1) (Some next) =
              first_yields p D law t u k n next stands beaten (on, subst (Ready p u) place_is ready) was lost answer held in
              let put : get_or (set best place (Some next)) (k.number - 1) None ≡ Some next = subst (λ i. get_or (set best place (Some next)) i None ≡ Some next) here (get_or-set_same best place (Some next) None inside) in
              subst (λ (x : Core). FirstBelow p D t u x (n + 1) (get_or (set best place (Some next)) (x.number - 1) None)) (sym (core_one c k e))
              (subst (FirstBelow p D t u k (n + 1)) (sym put) mine))
          | inr ne ↦
              (let far : c.number - 1 ≢ place = omega (arith, here, c.low, k.low, ne) in
              let still : get_or (set best place (Some next)) (c.number - 1) None ≡ get_or best (c.number - 1) None = get_or-set_other best place (c.number - 1) (Some next) None far in
              subst (FirstBelow p D t u c (n + 1)) (sym still) (other c ne))
        ]
