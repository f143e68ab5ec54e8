-- What is made of a line whose words say something.
use Rattle.std.proofs.Common.{ℕ, List, MatchResult, Result, Ok, Err, inl, inr}
use Rattle.plantext.specs.declared.notation.Problem.{Problem}
use Rattle.plantext.specs.declared.notation.Line.{Line}
use Rattle.plantext.specs.declared.notation.Line.TheVariants.{Empty, Handler, Join, CoreCode}
use Rattle.plantext.specs.Lines.{Says}
use Rattle.plantext.specs.declared.listing.Listing.{Listing}
use Rattle.plantext.specs.declared.listing.Trouble.{Trouble}
use Rattle.plantext.specs.declared.listing.Trouble.TheVariants.{Words, Refused, NoCore, NoCode}
use Rattle.plantext.specs.Taking.{before_comment, Took, Refuses, SplitsInto, TookText, SaysRefused, RefusesText}

-- what is said is not refused for its words
not_words : (line : Line) (was : Listing) (problem : Problem) → ¬ Refuses line was (Words problem)
not_words Empty was problem r = r
not_words (Handler h) was problem (why, is, r) = cc (is)
not_words (Join j) was problem (why, is, r) = cc (is)
not_words (CoreCode k) was problem (inl (range, is)) = cc (is)
not_words (CoreCode k) was problem (inr (low, high, none, is)) = cc (is)

refuses_text : (text : List ℕ) (line : Line) (was : Listing) (e : Trouble) → Refuses line was e → SaysRefused text was e → RefusesText text was e
refuses_text text line was (Words problem) r said = absurd (not_words line was problem r)
refuses_text text line was (Refused why) r said = said
refuses_text text line was (NoCore n) r said = said
refuses_text text line was (NoCode n) r said = said

module _ (text : List ℕ) (was next : Listing) (line : Line) (words : List (List ℕ)) (cut : SplitsInto (before_comment text) words) (says : Says words line) where
  pub said_text : (r : Result (Unit {0}) Trouble) → MatchResult r (λ _. Took line was next) (Refuses line was) → MatchResult r (λ _. TookText text was next) (RefusesText text was)
  said_text (Ok x) took = record { words = words; line = line; cut = cut; says = says; took = took }
  said_text (Err e) refused = refuses_text text line was e refused (record { words = words; line = line; cut = cut; says = says; refused = refused })
