-- Printed lines, as words with spaces between them.
use Rattle.std.proofs.Common.{◌≡◌, ℕ, List, ◌∷◌, ◌++◌, append_assoc}
use Rattle.plan.specs.declared.handlers.Handler.{Handler}
use Rattle.plantext.specs.Texts.{core_line, handler_line, join_line}
use Rattle.plantext.proofs.Words.{spaced}
use Rattle.plantext.proofs.Sayings.{core_words, handler_words, join_words}

module _ (rest : List ℕ) where
  pub core_spaced : (c code : ℕ) → core_line c code ++ rest ≡ spaced (core_words c code) ++ 10 ∷ rest
  core_spaced c code = simp append_assoc

  pub handler_spaced : (h : Handler) → handler_line h ++ rest ≡ spaced (handler_words h) ++ 10 ∷ rest
  handler_spaced h = simp append_assoc

  pub join_spaced : (a b : ℕ) → join_line a b ++ rest ≡ spaced (join_words a b) ++ 10 ∷ rest
  join_spaced a b = simp append_assoc
