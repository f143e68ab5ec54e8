-- What the lines of the text form make of a plan and the codes of its cores.
use Rattle.std.specs.Prelude.{◌≡◌, ℕ, ◌+◌, ◌-◌, ◌^◌, ◌<◌, ◌≤◌, ◌≢◌, ◌⊎◌, ◌==◌, List, [], ◌∷◌, ◌++◌, length, take, Ok, Err, replicate, min, slice_set}
use Rattle.std.specs.List.{before_first}
use Rattle.std.specs.Str.{NoCharPasses, EmptyOrStartsWithPassing}
use Rattle.std.specs.Char.{is_whitespace, is_not_whitespace}
use Rattle.plan.specs.declared.handlers.Handler.{Handler}
use Rattle.plan.specs.declared.refusals.Refusal.{Refusal}
use Rattle.plan.specs.Contents.{contents, empty}
use Rattle.plan.specs.Calls.{Registers, Joins}
use Rattle.policy.specs.declared.codes.Code.{Code}
use Rattle.policy.specs.declared.codes.Code.TheVariants.{FixedPriority}
use Rattle.policy.specs.Codes.{number_of}
use Rattle.plantext.specs.declared.notation.HandlerLine.{HandlerLine}
use Rattle.plantext.specs.declared.notation.JoinLine.{JoinLine}
use Rattle.plantext.specs.declared.notation.CoreLine.{CoreLine}
use Rattle.plantext.specs.declared.notation.Line.{Line}
use Rattle.plantext.specs.declared.notation.Line.TheVariants.{Empty, Handler as AHandler, Join, CoreCode}
use Rattle.plantext.specs.declared.notation.Problem.{Problem}
use Rattle.plantext.specs.Lines.{Says}
use Rattle.plantext.specs.Problems.{WrongWith, words_read}
use Rattle.plantext.specs.declared.listing.Listing.{Listing}
use Rattle.plantext.specs.declared.listing.Trouble.{Trouble}
use Rattle.plantext.specs.declared.listing.Trouble.TheVariants.{Words, Refused, NoCore, NoCode}
use Rattle.plantext.specs.declared.listing.Unlisted.{Unlisted}

-- a number as a byte: what does not fit becomes 255, which is no core, no code and no handler either
abbrev pub byte_of : ℕ → ℕ
byte_of n = min n 255

-- no handlers, no joins, and fixed priority on every core
abbrev pub IsNew : Listing → Type 0
IsNew l = (contents l.plan ≡ empty) × (l.codes ≡ replicate 8 FixedPriority)

-- the handler that a line describes
abbrev pub handler_of : HandlerLine → Handler
handler_of l = record { period = l.period; offset = l.offset; shortest = l.shortest; longest = l.longest; core = byte_of l.core }

-- the plan registers the handler, and the codes stay
abbrev pub TookHandler : HandlerLine → Listing → Listing → Type 0
TookHandler l was next =
    ((n : ℕ) × Registers (contents was.plan) (handler_of l) (Ok n) (contents next.plan)) × (next.codes ≡ was.codes)

-- the plan joins the two, and the codes stay
abbrev pub TookJoin : JoinLine → Listing → Listing → Type 0
TookJoin l was next =
    Joins (contents was.plan) (byte_of l.first) (byte_of l.second) (Ok tt) (contents next.plan) × (next.codes ≡ was.codes)

-- the core has the code of this number, and all else stays
pub record TookCode (l : CoreLine) (was next : Listing) : Type 0 where
  pub low : 1 ≤ l.core
  pub high : l.core ≤ 8
  pub code : Code
  pub named : number_of code ≡ l.code
  pub codes : next.codes ≡ slice_set was.codes (l.core - 1) code
  pub plan : next.plan ≡ was.plan

-- what an accepted line makes of a listing
abbrev pub Took : Line → Listing → Listing → Type 0
Took Empty was next = next ≡ was
Took (AHandler l) was next = TookHandler l was next
Took (Join l) was next = TookJoin l was next
Took (CoreCode l) was next = TookCode l was next

-- the plan refuses the handler, with this refusal
abbrev pub RefusesHandler : HandlerLine → Listing → Trouble → Type 0
RefusesHandler l was e =
    (why : Refusal) × (e ≡ Refused why) × Registers (contents was.plan) (handler_of l) (Err why) (contents was.plan)

-- the plan refuses the join, with this refusal
abbrev pub RefusesJoin : JoinLine → Listing → Trouble → Type 0
RefusesJoin l was e =
    (why : Refusal) × (e ≡ Refused why) × Joins (contents was.plan) (byte_of l.first) (byte_of l.second) (Err why) (contents was.plan)

-- there is no such core, or there is and the code is none
abbrev pub RefusesCode : CoreLine → Trouble → Type 0
RefusesCode l e =
    (((l.core ≡ 0) ⊎ (8 < l.core)) × (e ≡ NoCore l.core))
    ⊎ ((1 ≤ l.core) × (l.core ≤ 8) × ((c : Code) → number_of c ≢ l.code) × (e ≡ NoCode l.code))

-- why a line is refused
abbrev pub Refuses : Line → Listing → Trouble → Type 0
Refuses Empty was e = ⊥
Refuses (AHandler l) was e = RefusesHandler l was e
Refuses (Join l) was e = RefusesJoin l was e
Refuses (CoreCode l) was e = RefusesCode l e

-- the text is white space, the word, and the rest, which is empty or begins with white space
pub record StartsWithWord (text word rest : List ℕ) : Type 0 where
  pub gap : List ℕ
  pub split : text ≡ gap ++ (word ++ rest)
  pub nonempty : 0 < length word
  pub gap_is_blank : NoCharPasses is_not_whitespace gap
  pub word_is_whole : NoCharPasses is_whitespace word
  pub rest_starts_blank : (more : List ℕ) × EmptyOrStartsWithPassing is_whitespace rest more

-- these are the words of the text: what stands between white space
abbrev pub SplitsInto : List ℕ → List (List ℕ) → Type 0
SplitsInto text [] = NoCharPasses is_not_whitespace text
SplitsInto text (word ∷ words) = (rest : List ℕ) × StartsWithWord text word rest × SplitsInto rest words

-- these are the first words of the text, as many as are looked at
abbrev pub BeginsWith : List ℕ → List (List ℕ) → Type 0
BeginsWith text front =
    (words : List (List ℕ)) × SplitsInto text words × (front ≡ take words_read words)

-- what a line says before its comment, which begins with `#`
abbrev pub before_comment : List ℕ → List ℕ
before_comment text = before_first (λ b. b == 35) text

-- what the text of a line makes of a listing
pub record TookText (text : List ℕ) (was next : Listing) : Type 0 where
  pub words : List (List ℕ)
  pub line : Line
  pub cut : SplitsInto (before_comment text) words
  pub says : Says words line
  pub took : Took line was next

-- what these lines make of a new listing, one after another
pub data Lists : List (List ℕ) → Listing → Type 0 where
  begun : {l : Listing} → IsNew l → Lists [] l
  then : {lines : List (List ℕ)} {was next : Listing} (line : List ℕ) → Lists lines was → TookText line was next → Lists (lines ++ line ∷ []) next

-- the words of the line's text say nothing that a line can say, and this is wrong with them
pub record SaysNothing (text : List ℕ) (problem : Problem) : Type 0 where
  pub words : List (List ℕ)
  pub cut : SplitsInto (before_comment text) words
  pub unsaid : (line : Line) → ¬ Says words line
  pub wrong : WrongWith words problem

-- what they say is refused for this
pub record SaysRefused (text : List ℕ) (was : Listing) (e : Trouble) : Type 0 where
  pub words : List (List ℕ)
  pub line : Line
  pub cut : SplitsInto (before_comment text) words
  pub says : Says words line
  pub refused : Refuses line was e

-- why the text of a line is not taken
abbrev pub RefusesText : List ℕ → Listing → Trouble → Type 0
RefusesText text was (Words problem) = SaysNothing text problem
RefusesText text was (Refused why) = SaysRefused text was (Refused why)
RefusesText text was (NoCore n) = SaysRefused text was (NoCore n)
RefusesText text was (NoCode n) = SaysRefused text was (NoCode n)

-- the number of the line behind so many others, from 1 on; no text has so many lines that the count would stop
abbrev pub line_number : ℕ → ℕ
line_number n = min (n + 1) (2 ^ 64 - 1)

-- the lines before this one make a listing, and this one is not taken
pub record IsUnlisted (ls : List (List ℕ)) (e : Unlisted) : Type 0 where
  pub before : List (List ℕ)
  pub line : List ℕ
  pub after : List (List ℕ)
  pub split : ls ≡ before ++ line ∷ after
  pub number : e.line ≡ line_number (length before)
  pub was : Listing
  pub lists : Lists before was
  pub refused : RefusesText line was e.trouble
