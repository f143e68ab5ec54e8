-- What the lines of the text form say, word by word.
use Rattle.std.specs.Prelude.{◌≡◌, ℕ, ◌^◌, ◌<◌, List, [], ◌∷◌, map, codes}
use Rattle.std.specs.Borrow.{Bor}
use Rattle.std.specs.Str.Parse.{IsNumeral, digits_value, without_leading_plus}
use Rattle.plantext.specs.declared.notation.Key.{Key}
use Rattle.plantext.specs.declared.notation.Key.TheVariants.{Core, Period, Offset, Shortest, Longest, Code, First, Second}
use Rattle.plantext.specs.declared.notation.HandlerLine.{HandlerLine}
use Rattle.plantext.specs.declared.notation.JoinLine.{JoinLine}
use Rattle.plantext.specs.declared.notation.CoreLine.{CoreLine}
use Rattle.plantext.specs.declared.notation.Line.{Line}
use Rattle.plantext.specs.declared.notation.Line.TheVariants.{Empty, Handler, Join, CoreCode}

-- what the words of a slice are
abbrev pub texts : List (Bor (List ℕ)) → List (List ℕ)
texts ws = map (λ w. w.now) ws

-- the word is a decimal numeral of n, perhaps behind one `+`, and n has at most 16 bits
pub record Writes (word : List ℕ) (n : ℕ) : Type 0 where
  pub digits : IsNumeral 10 (without_leading_plus word)
  pub fits : digits_value 10 (without_leading_plus word) < 2 ^ 16
  pub is : n ≡ digits_value 10 (without_leading_plus word)

-- the word of a key, as character codes
abbrev pub key_text : Key → List ℕ
key_text Core = codes "core"
key_text Period = codes "period"
key_text Offset = codes "offset"
key_text Shortest = codes "shortest"
key_text Longest = codes "longest"
key_text Code = codes "code"
key_text First = codes "first"
key_text Second = codes "second"

-- the words begin with a key and its number, and these are left
pub record Field (ws : List (List ℕ)) (key : Key) (n : ℕ) (rest : List (List ℕ)) : Type 0 where
  pub word : List ℕ
  pub starts : ws ≡ key_text key ∷ (word ∷ rest)
  pub writes : Writes word n

-- the words begin with a key and its number, and what is left is such
abbrev pub Then : List (List ℕ) → Key → ℕ → (List (List ℕ) → Type 0) → Type 0
Then ws key n Such = (rest : List (List ℕ)) × Field ws key n rest × Such rest

-- what the words of a handler's line say after the first, which is `handler`
abbrev pub SaysHandler : List (List ℕ) → HandlerLine → Type 0
SaysHandler ws h =
    Then ws Core h.core (λ ws₁.
    Then ws₁ Period h.period (λ ws₂.
    Then ws₂ Offset h.offset (λ ws₃.
    Then ws₃ Shortest h.shortest (λ ws₄.
    Then ws₄ Longest h.longest (λ end. end ≡ [])))))

-- what the words of a join's line say after the first, which is `join`
abbrev pub SaysJoin : List (List ℕ) → JoinLine → Type 0
SaysJoin ws j = Then ws First j.first (λ more. Then more Second j.second (λ end. end ≡ []))

-- what the words of a line say that gives a core its code
abbrev pub SaysCore : List (List ℕ) → CoreLine → Type 0
SaysCore ws k = Then ws Core k.core (λ more. Then more Code k.code (λ end. end ≡ []))

-- the first word is this, and what is left is such
abbrev pub Begins : List (List ℕ) → List ℕ → (List (List ℕ) → Type 0) → Type 0
Begins ws word Such = (rest : List (List ℕ)) × (ws ≡ word ∷ rest) × Such rest

-- what the words of a line say
abbrev pub Says : List (List ℕ) → Line → Type 0
Says ws Empty = ws ≡ []
Says ws (Handler h) = Begins ws (codes "handler") (λ rest. SaysHandler rest h)
Says ws (Join j) = Begins ws (codes "join") (λ rest. SaysJoin rest j)
Says ws (CoreCode k) = SaysCore ws k
