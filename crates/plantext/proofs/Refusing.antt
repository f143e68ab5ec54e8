-- Lines that make a listing are not refused.
use Rattle.std.proofs.Common.{◌≡◌, ℕ, ◌⊎◌, List, [], ◌∷◌, ◌++◌, sym, refl, ap, ◌∙◌, inl, inr, subst, append_assoc, arith}
use Rattle.std.proofs.lemmas.List.{same_from_push}
use Rattle.plan.specs.Contents.{contents}
use Rattle.plan.proofs.Answered.{one_answer_each}
use Rattle.plantext.specs.declared.notation.Line.{Line}
use Rattle.plantext.specs.declared.notation.Line.TheVariants.{Empty, Handler, Join, CoreCode}
use Rattle.plantext.specs.Lines.{Says}
use Rattle.plantext.specs.declared.listing.Listing.{Listing}
use Rattle.plantext.specs.declared.listing.Trouble.{Trouble}
use Rattle.plantext.specs.declared.listing.Trouble.TheVariants.{Words, Refused, NoCore, NoCode}
use Rattle.plantext.specs.Taking.{before_comment, byte_of, handler_of, Took, Refuses, TookText, SaysRefused, RefusesText, Lists, begun, then}
use Rattle.plantext.specs.Theorems.{GoodLinesAreTaken}
use Rattle.plantext.proofs.OneCut.{one_cut}
use Rattle.plantext.proofs.OneListing.{said_one, not_empty, one_listing}

-- what is taken is not refused
took_not_refused : (line : Line) (was next : Listing) (e : Trouble) → Took line was next → ¬ Refuses line was e
took_not_refused Empty was next e took r = r
took_not_refused (Handler h) was next e took (why, is, r) =
    let one = one_answer_each.register (contents was.plan) (handler_of h) _ _ (contents next.plan) (contents was.plan) took.0.1 r in cc (one.0)
took_not_refused (Join j) was next e took (why, is, r) =
    let one = one_answer_each.join (contents was.plan) (byte_of j.first) (byte_of j.second) _ _ (contents next.plan) (contents was.plan) took.0 r in cc (one.0)
took_not_refused (CoreCode k) was next e took (inl (inl low, is)) = omega (arith, low, took.low)
took_not_refused (CoreCode k) was next e took (inl (inr high, is)) = omega (arith, high, took.high)
took_not_refused (CoreCode k) was next e took (inr (low, high, none, is)) = none took.code took.named

module _ (text : List ℕ) (was next : Listing) (took : TookText text was next) where
  not_refused : (e : Trouble) → ¬ SaysRefused text was e
  not_refused e r =
      let same = said_one (before_comment text) took.words r.words took.line r.line took.cut r.cut took.says r.says in
      took_not_refused took.line was next e took.took (subst (λ l. Refuses l was e) same r.refused)

  pub no_refusal : (e : Trouble) → ¬ RefusesText text was e
  no_refusal (Words problem) r =
      (r.unsaid took.line (subst (λ ws. Says ws took.line) (one_cut (before_comment text) r.words took.words r.cut took.cut) took.says))
  no_refusal (Refused why) r = not_refused (Refused why) r
  no_refusal (NoCore n) r = not_refused (NoCore n) r
  no_refusal (NoCode n) r = not_refused (NoCode n) r

-- ---- a line in the midst of others

-- the last of a list
ended : (xs : List (List ℕ)) → (xs ≡ []) ⊎ ((ys : List (List ℕ)) × (y : List ℕ) × (xs ≡ ys ++ y ∷ []))
ended [] = inl refl
ended (x ∷ xs) =
    elim (ended xs) [
      | inl e ↦ inr ([], x, ap (λ l. x ∷ l) e)
      | inr q ↦ inr (x ∷ q.0, q.1, ap (λ l. x ∷ l) q.2)
    ]

-- the line was taken by what the lines before it make
pub record Amidst (before : List (List ℕ)) (line : List ℕ) : Type 0 where
  pub was : Listing
  pub next : Listing
  pub lists : Lists before was
  pub took : TookText line was next

pub amidst : {ls : List (List ℕ)} {l : Listing} → Lists ls l → (before : List (List ℕ)) (line : List ℕ) (after : List (List ℕ)) → ls ≡ before ++ line ∷ after → Amidst before line
amidst (begun x) before line [] e = absurd (not_empty before line (sym e))
amidst (begun x) before line (y ∷ ys) e = absurd (some before (sym e))
  where
    some : (before : List (List ℕ)) → ¬ (before ++ line ∷ y ∷ ys ≡ [])
    some [] e = cc
    some (b ∷ bs) e = cc
amidst (then {lines} {was} {next} last earlier took) before line after e =
    elim (ended after) [
      | inl none ↦
          (let q = same_from_push lines before last line (e ∙ ap (λ a. before ++ line ∷ a) none) in
          record { was = was; next = next; lists = subst (λ ls. Lists ls was) q.0 earlier; took = subst (λ t. TookText t was next) q.1 took })
      | inr more ↦
          (let q = same_from_push lines (before ++ line ∷ more.0) last more.1
          (e ∙ ap (λ a. before ++ line ∷ a) more.2 ∙ sym (append_assoc before (line ∷ more.0) (more.1 ∷ []))) in
          amidst earlier before line more.0 q.0)
    ]

pub good_lines_are_taken : GoodLinesAreTaken
good_lines_are_taken ls l lists e un =
    let there = amidst lists un.before un.line un.after un.split in
    let same : there.was ≡ un.was = one_listing un.lists there.lists refl in
    no_refusal un.line un.was there.next (subst (λ w. TookText un.line w there.next) same there.took) e.trouble un.refused
