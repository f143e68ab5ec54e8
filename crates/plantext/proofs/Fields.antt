-- How the words of a slice are taken apart.
use Rattle.std.proofs.Common.{◌≡◌, ℕ, ◌-◌, ◌≤◌, List, [], ◌∷◌, length, get_or, take, drop, false, true≢false, Result, Ok, Err, is_ok, MatchResult, sym, ap, subst, arith, Bor}
use Rattle.std.specs.Result.{IsErrAnd}
use Rattle.std.specs.Str.Parse.{ParsesUnsigned}
use Rattle.std.proofs.lemmas.List.{take_rest}
use Rattle.plantext.specs.declared.notation.Problem.{Problem}
use Rattle.plantext.specs.Lines.{texts, Writes}

-- the word at a place; past the end it is blank
abbrev pub word : List (Bor (List ℕ)) → ℕ → List ℕ
word ws i = (get_or ws i record { ref_ptr = (0, 0); now = [] }).now

pub split_one : (ws : List (Bor (List ℕ))) (w : List ℕ) → 1 ≤ length ws → word ws 0 ≡ w → texts ws ≡ w ∷ texts (take (length ws - 1) (drop 1 ws))
split_one [] w h is = absurd (omega arith)
split_one (a ∷ ws) w h is = rw (← is) (ap (λ l. a.now ∷ texts l) (sym (take_rest (a ∷ ws) 1)))

pub split_two : (ws : List (Bor (List ℕ))) (w : List ℕ) → 2 ≤ length ws → word ws 0 ≡ w → texts ws ≡ w ∷ (word ws 1 ∷ texts (take (length ws - 2) (drop 2 ws)))
split_two [] w h is = absurd (omega arith)
split_two (a ∷ []) w h is = absurd (omega arith)
split_two (a ∷ (b ∷ ws)) w h is = rw (← is) (ap (λ l. a.now ∷ (b.now ∷ texts l)) (sym (take_rest (a ∷ (b ∷ ws)) 2)))

-- a word whose reading failed is no numeral of 16 bits
pub misread : (word : List ℕ) {E : Type 0} (r : Result ℕ E) → false ≡ is_ok r → ParsesUnsigned 16 10 word r → (n : ℕ) → ¬ Writes word n
misread word (Ok x) failed read n w = absurd (true≢false (sym failed))
misread word (Err e) failed read n w = read (w.digits, w.fits)

-- a problem that a `?` hands on
pub handed : {T : Type 0} (r : Result T Problem) (P : T → Type 0) (Q : Problem → Type 0) (p : Problem) → IsErrAnd r (λ q. q ≡ p) → Q p → MatchResult r P Q
handed (Ok x) P Q p h q = absurd h
handed (Err y) P Q p h q = subst Q (sym h) q
