use Rattle.std.proofs.Common.{◌≡◌, take}
use Rattle.plantext.specs.Lines.{texts}
use Rattle.plantext.specs.Problems.{words_read}
use Rattle.plantext.proofs.listing.read_words.Given as goal

-- the first of the words so far
abbrev pub invariant-loop-word : goal.invariant-loop-word
invariant-loop-word l = texts l.words.items ≡ take words_read (texts l.yielded)
