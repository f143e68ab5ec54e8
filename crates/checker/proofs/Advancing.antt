-- Going through the rows of a table, and putting what follows each into another.
use Rattle.std.proofs.Common.{◌≡◌, ℕ, ◌+◌, ◌<◌, ◌≤◌, List, [], ◌∷◌, ◌++◌, ◌⊎◌, length, get_or, take, drop, sym, ap, ◌∙◌, subst, inl, inr, arith}
use Rattle.std.specs.List.{Contains as Has}
use Rattle.std.proofs.lemmas.List.{take-append-drop, take_more, take_all}
use Rattle.std.proofs.lemmas.List.Elements.{Contains-append_left, Contains-push, Contains-push_cases}
use Rattle.policy.specs.Laws.{Choice}
use Rattle.plan.specs.Contents.{Contents}
use Rattle.model.specs.declared.states.State.{State}
use Rattle.checker.specs.Fronts.{StepsTo, FollowsOne, Joined, Overrun}

has_taken : (n : ℕ) (xs : List State) (s : State) → Has (take n xs) s → Has xs s
has_taken n xs s h = subst (λ (l : List State). Has l s) (take-append-drop n xs) (Contains-append_left (take n xs) (drop n xs) s h)

module _ (p : Contents) (D : Choice) (t : ℕ) (xs : List State) where
  pub joined_none : (was : List State) → was ≡ [] → Joined (FollowsOne p D t (take 0 xs)) [] was
  joined_none was e = rw e (record { old = λ x h. h; new = λ x f. absurd (omega (arith, f.1.1)); only = λ x h. inl h })

  module _ (i : ℕ) (mid : List State) (h : Joined (FollowsOne p D t (take i xs)) [] mid) where
    pub joined_all : length xs ≤ i → Joined (FollowsOne p D t xs) [] mid
    joined_all le = rw (take_all i xs le) at h

    module _ (s : State) (lt : i < length xs) (is : s ≡ get_or xs i s) where
      seen_more : take (i + 1) xs ≡ take i xs ++ s ∷ []
      seen_more = take_more xs i s lt ∙ ap (λ y. take i xs ++ y ∷ []) (sym is)

      follows_more : (x : State) → FollowsOne p D t (take i xs) x ⊎ StepsTo p D t s x → FollowsOne p D t (take (i + 1) xs) x
      follows_more x f = rw seen_more (elim f [
        | inl g ↦ (g.0, Contains-append_left (take i xs) (s ∷ []) g.0 g.1, g.2)
        | inr g ↦ (s, Contains-push (take i xs) s, g)
      ])

      pub joined_more : (after : List State) → Joined (StepsTo p D t s) mid after → Joined (FollowsOne p D t (take (i + 1) xs)) [] after
      joined_more after g = record {
        old = λ x k. g.old x (h.old x k);
        new = λ x f. (let m = rw seen_more at f.1 in elim (Contains-push_cases (take i xs) s f.0 m) [
          | inl k ↦ g.old x (h.new x (f.0, k, f.2))
          | inr e ↦ g.new x (subst (λ (y : State). StepsTo p D t y x) (sym e) f.2)
        ]);
        only = λ x k. elim (g.only x k) [
          | inl m ↦ (elim (h.only x m) [ inl n ↦ inl n | inr f ↦ inr (follows_more x (inl f)) ])
          | inr st ↦ inr (follows_more x (inr st))
        ];
      }

      pub overrun_from : (room : ℕ) → Overrun (StepsTo p D t s) mid room → Overrun (FollowsOne p D t xs) [] room
      overrun_from room o = record {
        rows = o.rows;
        once = o.once;
        such = λ x k. (
            let put : FollowsOne p D t (take (i + 1) xs) x → Has [] x ⊎ FollowsOne p D t xs x = λ f. inr (f.0, has_taken (i + 1) xs f.0 f.1, f.2) in
            elim (o.such x k) [
              | inl m ↦ (elim (h.only x m) [ inl n ↦ inl n | inr f ↦ put (follows_more x (inl f)) ])
              | inr st ↦ put (follows_more x (inr st))
            ]);
        many = o.many;
      }
