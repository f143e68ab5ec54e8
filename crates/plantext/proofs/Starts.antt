-- What is made of a line's outcome.
use Rattle.std.proofs.Common.{◌≡◌, ℕ, List, MatchResult, Ok, Err, Result}
use Rattle.std.specs.Result.{IsOkAnd}
use Rattle.plantext.specs.declared.notation.Line.{Line}
use Rattle.plantext.specs.declared.notation.Problem.{Problem}
use Rattle.plantext.specs.Lines.{Says}
use Rattle.plantext.specs.Problems.{WrongWith}

-- an outcome that `map` made into a line
pub made : {H : Type 0} (make : H → Line) (Such : H → Type 0) (Wrong : Problem → Type 0) (ws : List (List ℕ)) (r : Result H Problem) (m : Result Line Problem) →
    MatchResult r (λ h. IsOkAnd m (λ line. line ≡ make h)) (λ e. m ≡ Err e) → MatchResult r Such Wrong →
    ((h : H) → Such h → Says ws (make h)) → ((p : Problem) → Wrong p → WrongWith ws p) → MatchResult m (Says ws) (WrongWith ws)
made make Such Wrong ws (Ok h) (Ok line) is such said wrong = rw is (said h such)
made make Such Wrong ws (Ok h) (Err e) is such said wrong = absurd is
made make Such Wrong ws (Err e) m is lacks said wrong = rw is (wrong e lacks)
