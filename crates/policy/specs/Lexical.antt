-- By rank, then by number: going first carries over.
use Rattle.std.specs.Prelude.{◌≡◌, ℕ, true}
use Rattle.std.proofs.Common.{arith}
use Rattle.std.proofs.lemmas.Bool.Decides.{nat_tests}
use Rattle.std.specs.declared.cmp.Ordering.{Ordering}
use Rattle.std.specs.Ordering.{is_le, ordering_reverse}
use Rattle.policy.specs.Meanings.{by_rank}

pub lexical : (ab bd ad : Ordering) (m n o : ℕ) →
    (is_le ab ≡ true → is_le bd ≡ true → is_le ad ≡ true) →
    (is_le (ordering_reverse ad) ≡ true → is_le ab ≡ true → is_le (ordering_reverse bd) ≡ true) →
    (is_le bd ≡ true → is_le (ordering_reverse ad) ≡ true → is_le (ordering_reverse ab) ≡ true) →
    by_rank ab m n ≡ true → by_rank bd n o ≡ true → by_rank ad m o ≡ true
lexical ab bd ad m n o h1 h2 h3 x y = grind (arith, nat_tests)
