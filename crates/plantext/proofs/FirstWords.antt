-- The first twelve words of a line decide what is made of it.
use Rattle.std.proofs.Common.{◌≡◌, ℕ, ◌+◌, ◌≤◌, ◌<◌, List, [], ◌∷◌, ◌++◌, ◌⊎◌, length, take, drop, inl, inr, refl, ap, ◌∙◌, subst, take-append-drop, length-take-le, arith}
use Rattle.std.proofs.lemmas.Bool.{cases_lt}
use Rattle.std.proofs.lemmas.List.{take_all}
use Rattle.plantext.specs.declared.notation.Key.{Key}
use Rattle.plantext.specs.declared.notation.Problem.{Problem}
use Rattle.plantext.specs.declared.notation.Problem.TheVariants.{UnknownStart, NoField, NoNumber, MoreWords}
use Rattle.plantext.specs.declared.notation.Line.{Line}
use Rattle.plantext.specs.declared.notation.Line.TheVariants.{Empty, Handler, Join, CoreCode}
use Rattle.plantext.specs.Lines.{key_text, Then, Says}
use Rattle.plantext.specs.Problems.{Keyed, LacksField, Fails, GoesOn, WrongWith, in_handler, in_join, in_core, at_start, words_read, FirstWordsDecide}

-- ---- a line has fewer words

then_length : (ws : List (List ℕ)) (key : Key) (n m : ℕ) (Such : List (List ℕ) → Type 0) → ((rest : List (List ℕ)) → Such rest → length rest ≡ m) → Then ws key n Such → length ws ≡ m + 2
then_length ws key n m Such long (rest, f, such) = ap length f.starts ∙ omega (arith, long rest such)

ended : (rest : List (List ℕ)) → rest ≡ [] → length rest ≡ 0
ended rest e = ap length e

few_words : (ws : List (List ℕ)) (line : Line) → Says ws line → length ws < words_read
few_words ws Empty says = omega (arith, ap length says)
few_words ws (Handler h) (rest, is, says) =
    omega (
      arith,
      ap length is,
      then_length rest _ _ 8 _ (λ a. then_length a _ _ 6 _ (λ b. then_length b _ _ 4 _ (λ c. then_length c _ _ 2 _ (λ d. then_length d _ _ 0 _ ended)))) says,
    )
few_words ws (Join j) (rest, is, says) = omega (arith, ap length is, then_length rest _ _ 2 _ (λ a. then_length a _ _ 0 _ ended) says)
few_words ws (CoreCode k) says = omega (arith, then_length ws _ _ 2 _ (λ a. then_length a _ _ 0 _ ended) says)

-- ---- words behind the first twelve change no problem

module _ (more : List (List ℕ)) (p : Problem) where
  keyed_more : (ws : List (List ℕ)) (key : Key) → 2 ≤ length ws → (word : List ℕ) (rest : List (List ℕ)) → Keyed (ws ++ more) key word rest → (left : List (List ℕ)) × Keyed ws key word left
  keyed_more [] key long word rest k = absurd (omega (arith, long))
  keyed_more (a ∷ []) key long word rest k = absurd (omega (arith, long))
  keyed_more (a ∷ (b ∷ left)) key long word rest k =
      let first : a ≡ key_text key = cc (k) in
      let second : b ≡ word = cc (k) in
      (left, rw (first, second) refl)

  lacks_more : (ws : List (List ℕ)) (key : Key) → 2 ≤ length ws → (q : Problem) → LacksField ws key q → LacksField (ws ++ more) key q
  lacks_more ws key long (NoField k) (is, none) = (is, λ word rest k. let q = keyed_more ws key long word rest k in none word q.0 q.1)
  lacks_more ws key long (NoNumber k) (is, (word, rest, keyed, none)) = (is, (word, rest ++ more, ap (λ l. l ++ more) keyed, none))
  lacks_more ws key long UnknownStart h = h
  lacks_more ws key long MoreWords h = h

  fails_more : (ws : List (List ℕ)) (key : Key) (m : ℕ) (Later Other : List (List ℕ) → Type 0) → length ws ≡ m + 2
      → ((rest : List (List ℕ)) → length rest ≡ m → Later rest → Other (rest ++ more)) → Fails ws key p Later → Fails (ws ++ more) key p Other
  fails_more ws key m Later Other long other (inl lacks) = inl (lacks_more ws key (omega (arith, long)) p lacks)
  fails_more ws key m Later Other long other (inr (n, (rest, f, later))) =
      inr (
        n,
        (rest ++ more, record { word = f.word; starts = ap (λ l. l ++ more) f.starts; writes = f.writes }, other rest (omega (arith, long, ap length f.starts)) later),
      )

  goes_on : (ws : List (List ℕ)) → GoesOn ws p → GoesOn (ws ++ more) p
  goes_on [] (on, is) = absurd (on refl)
  goes_on (w ∷ ws) (on, is) = ((λ e. cc (e)), is)

  wrong_more : (ws : List (List ℕ)) → length ws ≡ words_read → WrongWith ws p → WrongWith (ws ++ more) p
  wrong_more ws long (in_handler (rest, is, fails)) =
      in_handler (
        rest ++ more,
        ap (λ l. l ++ more) is,
        fails_more rest _ 9 _ _ (omega (arith, long, ap length is))
            (λ a la. fails_more a _ 7 _ _ la
            (λ b lb. fails_more b _ 5 _ _ lb
            (λ c lc. fails_more c _ 3 _ _ lc
            (λ d ld. fails_more d _ 1 _ _ ld (λ e le. goes_on e)))))
            fails,
      )
  wrong_more ws long (in_join (rest, is, fails)) =
      in_join (
        rest ++ more,
        ap (λ l. l ++ more) is,
        fails_more rest _ 9 _ _ (omega (arith, long, ap length is)) (λ a la. fails_more a _ 7 _ _ la (λ b lb. goes_on b)) fails,
      )
  wrong_more ws long (in_core (rest, is, fails)) =
      in_core (
        rest ++ more,
        ap (λ l. l ++ more) is,
        fails_more ws _ 10 _ _ (omega (arith, long)) (λ a la. fails_more a _ 8 _ _ la (λ b lb. goes_on b)) fails,
      )
  wrong_more ws long (at_start u is) =
      at_start (record { word = u.word; rest = u.rest ++ more; starts = ap (λ l. l ++ more) u.starts; no_handler = u.no_handler; no_join = u.no_join; no_core = u.no_core }) is

-- the first twelve are all words, or there are twelve of them
module _ (ws : List (List ℕ)) where
  abbrev front : List (List ℕ)
  front = take words_read ws

  whole_or_full : (front ≡ ws) ⊎ (length front ≡ words_read)
  whole_or_full =
      elim (cases_lt (length ws) words_read) [
        | inl few ↦ inl (take_all words_read ws (omega (arith, few)))
        | inr many ↦ inr (length-take-le words_read ws many)
      ]

  says_all : (line : Line) → Says front line → Says ws line
  says_all line says =
      elim whole_or_full [
        | inl e ↦ subst (λ l. Says l line) e says
        | inr full ↦ absurd (omega (arith, full, few_words front line says))
      ]

  wrong_all : (p : Problem) → WrongWith front p → WrongWith ws p
  wrong_all p wrong =
      elim whole_or_full [
        | inl e ↦ subst (λ l. WrongWith l p) e wrong
        | inr full ↦ subst (λ l. WrongWith l p) (take-append-drop words_read ws) (wrong_more (drop words_read ws) p front full wrong)
      ]

pub first_words_decide : FirstWordsDecide
first_words_decide = record { says = says_all; wrong = wrong_all }
