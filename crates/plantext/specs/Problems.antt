-- What is wrong with the words of a line that is none.
use Rattle.std.specs.Prelude.{◌≡◌, ◌≢◌, ℕ, ◌⊎◌, List, [], ◌∷◌, take, codes}
use Rattle.plantext.specs.declared.notation.Key.{Key}
use Rattle.plantext.specs.declared.notation.Key.TheVariants.{Core, Period, Offset, Shortest, Longest, Code, First, Second}
use Rattle.plantext.specs.declared.notation.Line.{Line}
use Rattle.plantext.specs.declared.notation.Problem.{Problem}
use Rattle.plantext.specs.declared.notation.Problem.TheVariants.{UnknownStart, NoField, NoNumber, MoreWords}
use Rattle.plantext.specs.Lines.{key_text, Writes, Then, Begins, Says}

-- the words begin with the key's word and this one, and these are left
abbrev pub Keyed : List (List ℕ) → Key → List ℕ → List (List ℕ) → Type 0
Keyed ws key word rest = ws ≡ key_text key ∷ (word ∷ rest)

-- the words begin with the key's word and one that is no numeral of 16 bits
abbrev pub IsMisread : List (List ℕ) → Key → Type 0
IsMisread ws key =
    (word : List ℕ) × (rest : List (List ℕ)) × Keyed ws key word rest × ((n : ℕ) → ¬ Writes word n)

-- why the words do not begin with this field: the key's word and a further one are not there, or
-- that is no number
abbrev pub LacksField : List (List ℕ) → Key → Problem → Type 0
LacksField ws key (NoField k) =
    (k ≡ key) × ((word : List ℕ) (rest : List (List ℕ)) → ¬ Keyed ws key word rest)
LacksField ws key (NoNumber k) = (k ≡ key) × IsMisread ws key
LacksField ws key UnknownStart = ⊥
LacksField ws key MoreWords = ⊥

-- the words lack this field; or they begin with it, and what is left has a later problem
abbrev pub Fails : List (List ℕ) → Key → Problem → (List (List ℕ) → Type 0) → Type 0
Fails ws key problem Later = LacksField ws key problem ⊎ ((n : ℕ) × Then ws key n Later)

-- words stand behind the last field
abbrev pub GoesOn : List (List ℕ) → Problem → Type 0
GoesOn ws problem = (ws ≢ []) × (problem ≡ MoreWords)

-- what is wrong with the words of a handler's line after the first, which is `handler`
abbrev pub FailsHandler : List (List ℕ) → Problem → Type 0
FailsHandler ws p =
    Fails ws Core p (λ ws₁.
    Fails ws₁ Period p (λ ws₂.
    Fails ws₂ Offset p (λ ws₃.
    Fails ws₃ Shortest p (λ ws₄.
    Fails ws₄ Longest p (λ end. GoesOn end p)))))

-- what is wrong with the words of a join's line after the first, which is `join`
abbrev pub FailsJoin : List (List ℕ) → Problem → Type 0
FailsJoin ws p = Fails ws First p (λ more. Fails more Second p (λ end. GoesOn end p))

-- what is wrong with the words of a line that begins with `core`
abbrev pub FailsCore : List (List ℕ) → Problem → Type 0
FailsCore ws p = Fails ws Core p (λ more. Fails more Code p (λ end. GoesOn end p))

-- there is a first word, and no line begins with it
pub record IsUnknown (ws : List (List ℕ)) : Type 0 where
  pub word : List ℕ
  pub rest : List (List ℕ)
  pub starts : ws ≡ word ∷ rest
  pub no_handler : word ≢ codes "handler"
  pub no_join : word ≢ codes "join"
  pub no_core : word ≢ codes "core"

-- what is wrong with the words: the first thing in them, from the front, that no line has there
pub data WrongWith (ws : List (List ℕ)) (p : Problem) : Type 0 where
  in_handler : Begins ws (codes "handler") (λ rest. FailsHandler rest p) → WrongWith ws p
  in_join : Begins ws (codes "join") (λ rest. FailsJoin rest p) → WrongWith ws p
  in_core : Begins ws (codes "core") (λ _. FailsCore ws p) → WrongWith ws p
  at_start : IsUnknown ws → p ≡ UnknownStart → WrongWith ws p

-- such words say nothing that a line can say, and one thing is wrong with them
pub record ProblemsTell : Type 0 where
  pub unsaid : (ws : List (List ℕ)) (p : Problem) → WrongWith ws p → (line : Line) → ¬ Says ws line
  pub one : (ws : List (List ℕ)) (p q : Problem) → WrongWith ws p → WrongWith ws q → q ≡ p

-- no line has so many words
abbrev pub words_read : ℕ
words_read = 12

-- so what so many words from the front say, or what is wrong with them, all words of the line do
pub record FirstWordsDecide : Type 0 where
  pub says : (ws : List (List ℕ)) (line : Line) → Says (take words_read ws) line → Says ws line
  pub wrong : (ws : List (List ℕ)) (p : Problem) → WrongWith (take words_read ws) p → WrongWith ws p
