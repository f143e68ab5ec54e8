-- A handler has at most one last core in a mixture of calls, and what a call more does to it.
use Rattle.std.proofs.Common.{◌≡◌, ℕ, ◌⊎◌, List, [], ◌∷◌, ◌++◌, Ok, Err, sym, refl, ap, ◌∙◌, subst, inl, inr}
use Rattle.std.specs.List.{Contains as Has}
use Rattle.std.proofs.lemmas.List.{append_assoc}
use Rattle.std.proofs.lemmas.List.Elements.{Contains-append_right, Contains-push_cases}
use Rattle.gather.proofs.Counting.{has_here}
use Rattle.plan.specs.Histories.{registered, joined, reseated}
use Rattle.model.proofs.Lists.{has_none}
use Rattle.model.specs.Histories.{Event, changes, checks, Seats, LastCore}

-- ---- a call more

module _ (events : List Event) (event : Event) (n : ℕ) where
  -- the call seats the handler
  pub seats_last : (c : ℕ) → Seats event n c → LastCore (events ++ event ∷ []) n c
  seats_last c s = record { before = events; event = event; rest = []; whole = refl; seats = s; last = λ e h. absurd (has_none e h) }

  -- the call does not
  pub stays_last : (c : ℕ) → ((d : ℕ) → ¬ Seats event n d) → LastCore events n c → LastCore (events ++ event ∷ []) n c
  stays_last c not l =
      record {
        before = l.before;
        event = l.event;
        rest = l.rest ++ event ∷ [];
        whole = ap (λ es. es ++ event ∷ []) l.whole ∙ append_assoc l.before (l.event ∷ l.rest) (event ∷ []);
        seats = l.seats;
        last = λ e h d s. elim (Contains-push_cases l.rest event e h) [ inl m ↦ l.last e m d s | inr q ↦ not d (subst (λ x. Seats x n d) (sym q) s) ];
      }

-- ---- there is one

-- who is registered or seated by a call gets one core by it
seats_one : (event : Event) (n c d : ℕ) → Seats event n c → Seats event n d → c ≡ d
seats_one (changes (registered h (Ok m))) n c d s t = sym s.1 ∙ t.1
seats_one (changes (reseated m e (Ok u))) n c d s t = sym s.1 ∙ t.1
seats_one (changes (registered h (Err e))) n c d s t = absurd s
seats_one (changes (joined a b r)) n c d s t = absurd s
seats_one (changes (reseated m e (Err f))) n c d s t = absurd s
seats_one (checks D was r is) n c d s t = absurd s

-- two splittings of one list come apart at the same element, or one comes apart in the rest of the other
split_cases : (b b' : List Event) (e e' : Event) (r r' : List Event) → b ++ e ∷ r ≡ b' ++ e' ∷ r' → (e ≡ e') ⊎ (Has r e' ⊎ Has r' e)
split_cases [] [] e e' r r' q = inl cc
split_cases [] (x ∷ b') e e' r r' q = let same : r ≡ b' ++ e' ∷ r' = cc in inr (inl (subst (λ l. Has l e') (sym same) (Contains-append_right b' (e' ∷ r') e' (has_here e' r'))))
split_cases (x ∷ b) [] e e' r r' q = let same : b ++ e ∷ r ≡ r' = cc in inr (inr (subst (λ l. Has l e) same (Contains-append_right b (e ∷ r) e (has_here e r))))
split_cases (x ∷ b) (y ∷ b') e e' r r' q = split_cases b b' e e' r r' cc

pub last_core_one : (events : List Event) (n c d : ℕ) → LastCore events n c → LastCore events n d → c ≡ d
last_core_one events n c d x y =
    elim (split_cases x.before y.before x.event y.event x.rest y.rest (sym x.whole ∙ y.whole)) [
      | inl e ↦ seats_one y.event n c d (subst (λ z. Seats z n c) e x.seats) y.seats
      | inr h ↦ (elim h [ inl m ↦ absurd (x.last y.event m d y.seats) | inr m ↦ absurd (y.last x.event m c x.seats) ])
    ]
