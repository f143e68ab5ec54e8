-- A text that is refused is refused for one reason, at one line.
use Rattle.std.proofs.Common.{◌≡◌, ℕ, ◌<◌, ◌⊎◌, List, [], ◌∷◌, ◌++◌, length, sym, refl, ap, ap₂, ◌∙◌, inl, inr, subst, arith}
use Rattle.std.proofs.lemmas.Bool.{cases_lt}
use Rattle.plan.specs.Contents.{contents}
use Rattle.plan.proofs.Answered.{one_answer_each}
use Rattle.plantext.specs.declared.notation.Problem.{Problem}
use Rattle.plantext.specs.declared.notation.Line.{Line}
use Rattle.plantext.specs.declared.notation.Line.TheVariants.{Empty, Handler, Join, CoreCode}
use Rattle.plantext.specs.Lines.{Says}
use Rattle.plantext.specs.Problems.{WrongWith}
use Rattle.plantext.proofs.Telling.{problems_tell}
use Rattle.plantext.specs.declared.listing.Listing.{Listing}
use Rattle.plantext.specs.declared.listing.Trouble.{Trouble}
use Rattle.plantext.specs.declared.listing.Trouble.TheVariants.{Words, Refused, NoCore, NoCode}
use Rattle.plantext.specs.declared.listing.Unlisted.{Unlisted}
use Rattle.plantext.specs.Taking.{before_comment, byte_of, handler_of, line_number, Refuses, SaysNothing, SaysRefused, RefusesText, TookText, IsUnlisted}
use Rattle.plantext.proofs.OneCut.{one_cut}
use Rattle.plantext.proofs.OneListing.{said_one, one_listing}
use Rattle.plantext.proofs.Refusing.{amidst, no_refusal}

-- ---- one line

refuses_one : (line : Line) (was : Listing) (e f : Trouble) → Refuses line was e → Refuses line was f → f ≡ e
refuses_one Empty was e f x y = absurd x
refuses_one (Handler h) was e f (why, is, r) (other, also, s) =
    let one = one_answer_each.register (contents was.plan) (handler_of h) _ _ (contents was.plan) (contents was.plan) r s in
    let same : other ≡ why = cc (one.0) in
    also ∙ ap Refused same ∙ sym is
refuses_one (Join j) was e f (why, is, r) (other, also, s) =
    let one = one_answer_each.join (contents was.plan) (byte_of j.first) (byte_of j.second) _ _ (contents was.plan) (contents was.plan) r s in
    let same : other ≡ why = cc (one.0) in
    also ∙ ap Refused same ∙ sym is
refuses_one (CoreCode k) was e f (inl (range, is)) (inl (other, also)) = also ∙ sym is
refuses_one (CoreCode k) was e f (inl (inl zero, is)) (inr (low, high, none, also)) = absurd (omega (arith, zero, low))
refuses_one (CoreCode k) was e f (inl (inr above, is)) (inr (low, high, none, also)) = absurd (omega (arith, above, high))
refuses_one (CoreCode k) was e f (inr (low, high, none, also)) (inl (inl zero, is)) = absurd (omega (arith, zero, low))
refuses_one (CoreCode k) was e f (inr (low, high, none, also)) (inl (inr above, is)) = absurd (omega (arith, above, high))
refuses_one (CoreCode k) was e f (inr (low, high, none, is)) (inr (least, most, never, also)) = also ∙ sym is

module _ (text : List ℕ) (was : Listing) where
  -- a trouble is with the words, or with what they say
  abbrev Told : Trouble → Type 0
  Told e = ((p : Problem) × (e ≡ Words p) × SaysNothing text p) ⊎ SaysRefused text was e

  told : (e : Trouble) → RefusesText text was e → Told e
  told (Words p) r = inl (p, refl, r)
  told (Refused why) r = inr r
  told (NoCore n) r = inr r
  told (NoCode n) r = inr r

  not_both : (p : Problem) (f : Trouble) → SaysNothing text p → ¬ SaysRefused text was f
  not_both p f x y = x.unsaid y.line (subst (λ ws. Says ws y.line) (one_cut (before_comment text) x.words y.words x.cut y.cut) y.says)

  one_problem : (p q : Problem) → SaysNothing text p → SaysNothing text q → q ≡ p
  one_problem p q x y = problems_tell.one x.words p q x.wrong (subst (λ ws. WrongWith ws q) (one_cut (before_comment text) x.words y.words x.cut y.cut) y.wrong)

  one_trouble : (e f : Trouble) → Told e → Told f → f ≡ e
  one_trouble e f (inl (p, is, x)) (inl (q, also, y)) = also ∙ ap Words (one_problem p q x y) ∙ sym is
  one_trouble e f (inl (p, is, x)) (inr y) = absurd (not_both p f x y)
  one_trouble e f (inr x) (inl (q, also, y)) = absurd (not_both q e y x)
  one_trouble e f (inr x) (inr y) =
      let same : y.line ≡ x.line = said_one (before_comment text) x.words y.words x.line y.line x.cut y.cut x.says y.says in
      refuses_one x.line was e f x.refused (subst (λ l. Refuses l was f) same y.refused)

-- ---- one place

module _ {A : Type 0} (x : A) (after : List A) where
  -- a list that is longer than what stands before x goes on with x
  goes_on : (xs ys rest : List A) → xs ++ x ∷ after ≡ ys ++ rest → length xs < length ys → (more : List A) × (ys ≡ xs ++ x ∷ more)
  goes_on [] [] rest e l = absurd (omega (arith, l))
  goes_on [] (y ∷ ys) rest e l = let same : y ≡ x = cc (e) in (ys, ap (λ a. a ∷ ys) same)
  goes_on (z ∷ xs) [] rest e l = absurd (omega (arith, l))
  goes_on (z ∷ xs) (y ∷ ys) rest e l =
      let same : y ≡ z = cc (e) in
      let behind : xs ++ x ∷ after ≡ ys ++ rest = cc (e) in
      let q = goes_on xs ys rest behind (omega (arith, l)) in
      (q.0, ap₂ (λ a b. a ∷ b) same q.1)

  same_place : (xs ys : List A) (y : A) (rest : List A) → xs ++ x ∷ after ≡ ys ++ y ∷ rest → length xs ≡ length ys → (ys ≡ xs) × (y ≡ x)
  same_place [] [] y rest e l = (refl, cc (e))
  same_place [] (b ∷ ys) y rest e l = absurd (omega (arith, l))
  same_place (a ∷ xs) [] y rest e l = absurd (omega (arith, l))
  same_place (a ∷ xs) (b ∷ ys) y rest e l =
      let same : b ≡ a = cc (e) in
      let behind : xs ++ x ∷ after ≡ ys ++ y ∷ rest = cc (e) in
      let q = same_place xs ys y rest behind (omega (arith, l)) in
      (ap₂ (λ u v. u ∷ v) same q.0, q.1)

module _ (ls : List (List ℕ)) where
  -- no line before the one that is named is refused
  not_before : (e f : Unlisted) → (x : IsUnlisted ls e) (y : IsUnlisted ls f) → ¬ (length x.before < length y.before)
  not_before e f x y l =
      let q = goes_on x.line x.after x.before y.before (y.line ∷ y.after) (sym x.split ∙ y.split) l in
      let there = amidst y.lists x.before x.line q.0 q.1 in
      let same : there.was ≡ x.was = one_listing x.lists there.lists refl in
      no_refusal x.line x.was there.next (subst (λ w. TookText x.line w there.next) same there.took) e.trouble x.refused

  pub one_refusal : (e f : Unlisted) → IsUnlisted ls e → IsUnlisted ls f → f ≡ e
  one_refusal e f x y =
      let level : length x.before ≡ length y.before =
      elim (cases_lt (length x.before) (length y.before)) [
        | inl l ↦ absurd (not_before e f x y l)
        | inr g ↦ (elim (cases_lt (length y.before) (length x.before)) [ inl l ↦ absurd (not_before f e y x l) | inr h ↦ omega (arith, g, h) ])
      ] in
      let q = same_place x.line x.after x.before y.before y.line y.after (sym x.split ∙ y.split) level in
      let same_was : y.was ≡ x.was = one_listing x.lists y.lists q.0 in
      let refused : RefusesText x.line x.was f.trouble =
      subst (λ w. RefusesText x.line w f.trouble) same_was (subst (λ l. RefusesText l y.was f.trouble) q.1 y.refused) in
      let trouble = one_trouble x.line x.was e.trouble f.trouble (told x.line x.was e.trouble x.refused) (told x.line x.was f.trouble refused) in
      let line : f.line ≡ e.line = y.number ∙ ap line_number (sym level) ∙ sym x.number in
      ap₂ (λ n t. record { line = n; trouble = t }) line trouble
