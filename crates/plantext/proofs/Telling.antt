-- Words with a problem say nothing, and have one problem.
use Rattle.std.proofs.Common.{◌≡◌, ℕ, List, [], ◌∷◌, codes, inl, inr, sym, refl, ap, ◌∙◌, subst, arith}
use Rattle.plantext.specs.declared.notation.Key.{Key}
use Rattle.plantext.specs.declared.notation.Problem.{Problem}
use Rattle.plantext.specs.declared.notation.Problem.TheVariants.{UnknownStart, NoField, NoNumber, MoreWords}
use Rattle.plantext.specs.declared.notation.Line.{Line}
use Rattle.plantext.specs.declared.notation.Line.TheVariants.{Empty, Handler, Join, CoreCode}
use Rattle.plantext.specs.Lines.{Writes, Field, Then, SaysHandler, SaysJoin, Says}
use Rattle.plantext.specs.Problems.{Keyed, LacksField, Fails, GoesOn, FailsHandler, FailsJoin, IsUnknown, WrongWith, in_handler, in_join, in_core, at_start, ProblemsTell}

module _ (ws : List (List ℕ)) (key : Key) where
  same_word : (word other : List ℕ) (rest left : List (List ℕ)) → Keyed ws key word rest → Keyed ws key other left → other ≡ word
  same_word word other rest left x y = cc (x, y)

  same_rest : (word other : List ℕ) (rest left : List (List ℕ)) → Keyed ws key word rest → Keyed ws key other left → left ≡ rest
  same_rest word other rest left x y = cc (x, y)

  -- a field that is lacking is not there
  lacks_not : (p : Problem) → LacksField ws key p → (n : ℕ) (rest : List (List ℕ)) → ¬ Field ws key n rest
  lacks_not (NoField k) (is, none) n rest f = none f.word rest f.starts
  lacks_not (NoNumber k) (is, (word, left, keyed, none)) n rest f = none n (subst (λ w. Writes w n) (same_word word f.word left rest keyed f.starts) f.writes)
  lacks_not UnknownStart h n rest f = h
  lacks_not MoreWords h n rest f = h

  lacks_one : (p q : Problem) → LacksField ws key p → LacksField ws key q → q ≡ p
  lacks_one (NoField k) (NoField l) x y = ap NoField (y.0 ∙ sym x.0)
  lacks_one (NoField k) (NoNumber l) x (is, (word, left, keyed, none)) = absurd (x.1 word left keyed)
  lacks_one (NoNumber k) (NoField l) (is, (word, left, keyed, none)) y = absurd (y.1 word left keyed)
  lacks_one (NoNumber k) (NoNumber l) x y = ap NoNumber (y.0 ∙ sym x.0)
  lacks_one UnknownStart q x y = absurd x
  lacks_one MoreWords q x y = absurd x
  lacks_one (NoField k) UnknownStart x y = absurd y
  lacks_one (NoField k) MoreWords x y = absurd y
  lacks_one (NoNumber k) UnknownStart x y = absurd y
  lacks_one (NoNumber k) MoreWords x y = absurd y

  module _ (p : Problem) (Later : List (List ℕ) → Type 0) where
    fails_not : Fails ws key p Later → (n : ℕ) (Such : List (List ℕ) → Type 0) → ((rest : List (List ℕ)) → Later rest → ¬ Such rest) → ¬ Then ws key n Such
    fails_not (inl lacks) n Such apart (rest, f, such) = lacks_not p lacks n rest f
    fails_not (inr (m, (left, g, later))) n Such apart (rest, f, such) =
        apart left later (subst Such (same_rest g.word f.word left rest g.starts f.starts) such)

    fails_one : (q : Problem) (Other : List (List ℕ) → Type 0) → ((rest : List (List ℕ)) → Later rest → Other rest → q ≡ p) → Fails ws key p Later → Fails ws key q Other → q ≡ p
    fails_one q Other one (inl x) (inl y) = lacks_one p q x y
    fails_one q Other one (inl x) (inr (n, (rest, f, other))) = absurd (lacks_not p x n rest f)
    fails_one q Other one (inr (m, (left, g, later))) (inl y) = absurd (lacks_not q y m left g)
    fails_one q Other one (inr (m, (left, g, later))) (inr (n, (rest, f, other))) =
        one left later (subst Other (same_rest g.word f.word left rest g.starts f.starts) other)

over : (p : Problem) (rest : List (List ℕ)) → GoesOn rest p → ¬ (rest ≡ [])
over p rest on end = on.0 end

both_over : (p q : Problem) (rest : List (List ℕ)) → GoesOn rest p → GoesOn rest q → q ≡ p
both_over p q rest x y = y.1 ∙ sym x.1

join_or_core : (xs ys : List (List ℕ)) → ¬ (codes "join" ∷ xs ≡ codes "core" ∷ ys)
join_or_core xs ys e = let z : ◌≡◌ {A = ℕ} 106 99 = cc in omega arith

module _ (ws : List (List ℕ)) (p : Problem) where
  -- where the first word is none that begins a line, ws does not begin with one
  unknown_start : IsUnknown ws → (word : List ℕ) (rest : List (List ℕ)) → ws ≡ word ∷ rest → (¬ (word ≡ codes "handler")) × (¬ (word ≡ codes "join")) × (¬ (word ≡ codes "core"))
  unknown_start u word rest is =
      let same : u.word ≡ word = cc (u.starts, is) in
      subst (λ w. (¬ (w ≡ codes "handler")) × (¬ (w ≡ codes "join")) × (¬ (w ≡ codes "core"))) same (u.no_handler, u.no_join, u.no_core)

  unsaid : WrongWith ws p → (line : Line) → ¬ Says ws line
  unsaid (in_handler (rest, is, fails)) Empty says = cc (is, says)
  unsaid (in_handler (rest, is, fails)) (Handler h) (left, also, says) =
      let same : left ≡ rest = cc (is, also) in
      fails_not rest _ p _ fails _ _
      (λ a x. fails_not a _ p _ x _ _
      (λ b y. fails_not b _ p _ y _ _
      (λ c z. fails_not c _ p _ z _ _
      (λ d w. fails_not d _ p _ w _ _ (over p)))))
      (subst (λ l. SaysHandler l h) same says)
  unsaid (in_handler (rest, is, fails)) (Join j) (left, also, says) = cc (is, also)
  unsaid (in_handler (rest, is, fails)) (CoreCode k) (left, f, says) = cc (is, f.starts)
  unsaid (in_join (rest, is, fails)) Empty says = cc (is, says)
  unsaid (in_join (rest, is, fails)) (Handler h) (left, also, says) = cc (is, also)
  unsaid (in_join (rest, is, fails)) (Join j) (left, also, says) =
      let same : left ≡ rest = cc (is, also) in
      fails_not rest _ p _ fails _ _ (λ a x. fails_not a _ p _ x _ _ (over p)) (subst (λ l. SaysJoin l j) same says)
  unsaid (in_join (rest, is, fails)) (CoreCode k) (left, f, says) = join_or_core _ _ (sym is ∙ f.starts)
  unsaid (in_core (rest, is, fails)) Empty says = cc (is, says)
  unsaid (in_core (rest, is, fails)) (Handler h) (left, also, says) = cc (is, also)
  unsaid (in_core (rest, is, fails)) (Join j) (left, also, says) = join_or_core _ _ (sym also ∙ is)
  unsaid (in_core (rest, is, fails)) (CoreCode k) says = fails_not ws _ p _ fails _ _ (λ a x. fails_not a _ p _ x _ _ (over p)) says
  unsaid (at_start u is) Empty says = cc (u.starts, says)
  unsaid (at_start u is) (Handler h) (left, also, says) = (unknown_start u _ _ also).0 refl
  unsaid (at_start u is) (Join j) (left, also, says) = (unknown_start u _ _ also).1 refl
  unsaid (at_start u is) (CoreCode k) (left, f, says) = (unknown_start u _ _ f.starts).2 refl

  one : (q : Problem) → WrongWith ws p → WrongWith ws q → q ≡ p
  one q (in_handler (rest, is, x)) (in_handler (left, also, y)) =
      let same : left ≡ rest = cc (is, also) in
      fails_one rest _ p _ q _
      (λ a. fails_one a _ p _ q _
      (λ b. fails_one b _ p _ q _
      (λ c. fails_one c _ p _ q _
      (λ d. fails_one d _ p _ q _ (both_over p q)))))
      x (subst (λ l. FailsHandler l q) same y)
  one q (in_handler (rest, is, x)) (in_join (left, also, y)) = absurd (cc (is, also))
  one q (in_handler (rest, is, x)) (in_core (left, also, y)) = absurd (cc (is, also))
  one q (in_handler (rest, is, x)) (at_start u y) = absurd ((unknown_start u _ _ is).0 refl)
  one q (in_join (rest, is, x)) (in_handler (left, also, y)) = absurd (cc (is, also))
  one q (in_join (rest, is, x)) (in_join (left, also, y)) =
      let same : left ≡ rest = cc (is, also) in
      fails_one rest _ p _ q _ (λ a. fails_one a _ p _ q _ (both_over p q)) x (subst (λ l. FailsJoin l q) same y)
  one q (in_join (rest, is, x)) (in_core (left, also, y)) = absurd (join_or_core _ _ (sym is ∙ also))
  one q (in_join (rest, is, x)) (at_start u y) = absurd ((unknown_start u _ _ is).1 refl)
  one q (in_core (rest, is, x)) (in_handler (left, also, y)) = absurd (cc (is, also))
  one q (in_core (rest, is, x)) (in_join (left, also, y)) = absurd (join_or_core _ _ (sym also ∙ is))
  one q (in_core (rest, is, x)) (in_core (left, also, y)) = fails_one ws _ p _ q _ (λ a. fails_one a _ p _ q _ (both_over p q)) x y
  one q (in_core (rest, is, x)) (at_start u y) = absurd ((unknown_start u _ _ is).2 refl)
  one q (at_start u x) (in_handler (left, also, y)) = absurd ((unknown_start u _ _ also).0 refl)
  one q (at_start u x) (in_join (left, also, y)) = absurd ((unknown_start u _ _ also).1 refl)
  one q (at_start u x) (in_core (left, also, y)) = absurd ((unknown_start u _ _ also).2 refl)
  one q (at_start u x) (at_start v y) = y ∙ sym x

pub problems_tell : ProblemsTell
problems_tell = record { unsaid = unsaid; one = one }
