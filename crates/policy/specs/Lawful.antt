-- The three rankings obey the laws of criteria, and numbering over any ranking that does obeys the laws of disciplines.
use Rattle.std.specs.Prelude.{◌≡◌, ℕ, ◌+◌, ◌≤◌, refl}
use Rattle.std.specs.Int.{◌∣◌}
use Rattle.std.proofs.Common.{arith}
use Rattle.std.proofs.lemmas.Bool.Decides.{nat_tests}
use Rattle.policy.specs.declared.candidates.Candidate.{Candidate}
use Rattle.policy.specs.Deadlines.{distance}
use Rattle.policy.specs.Laws.{Ranking, IsLawfulRanking, IsLawfulChoice}
use Rattle.policy.specs.Meanings.{by_number, by_period, by_distance, numbered}
use Rattle.std.specs.Ordering.{nat_cmp}
use Rattle.policy.specs.Distances.{distance_again}
use Rattle.policy.specs.Lexical.{lexical}

-- ranking by the smaller value of each candidate, if that value repeats with the period
smaller_lawful : (f : Candidate → ℕ → ℕ) → ((a : Candidate) (t p : ℕ) → a.offset ≤ t → a.period ∣ p → f a (t + p) ≡ f a t)
    → IsLawfulRanking (λ k a b t. nat_cmp (f a t) (f b t))
smaller_lawful f again = record {
  reverses = λ k a b t. grind (arith, nat_tests);
  carries = λ k a b d t x y. grind (arith, nat_tests);
  repeats = λ k a b t p h. rw (again a t p h.began_a h.whole_a, again b t p h.began_b h.whole_b);
}

pub by_number_lawful : IsLawfulRanking by_number
by_number_lawful = smaller_lawful (λ a t. a.number) (λ a t p o d. refl)

pub by_period_lawful : IsLawfulRanking by_period
by_period_lawful = smaller_lawful (λ a t. a.period) (λ a t p o d. refl)

pub by_distance_lawful : IsLawfulRanking by_distance
by_distance_lawful = smaller_lawful (λ a t. distance a.period a.offset t) (λ a t p o d. distance_again a.period a.offset t p o d)

pub numbered_lawful : (r : Ranking) → IsLawfulRanking r → IsLawfulChoice (numbered r)
numbered_lawful r law = record {
  reverses = λ k a b t apart. rw (law.reverses k a b t) (grind (arith, nat_tests));
  carries = λ k a b d t _ _ _.
      lexical (r k a b t) (r k b d t) (r k a d t) a.number b.number d.number
      (law.carries k a b d t)
      (rw (law.reverses k a d t, law.reverses k b d t) at (law.carries k d a b t))
      (rw (law.reverses k a d t, law.reverses k a b t) at (law.carries k b d a t));
  repeats = λ k a b t p _ h. rw (law.repeats k a b t p h);
}
