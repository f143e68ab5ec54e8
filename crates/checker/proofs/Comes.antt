-- One state more has come.
use Rattle.std.proofs.Common.{◌≡◌, suc, ◌<◌, sym, refl, ◌∙◌, subst₂, inl, inr, arith, Some}
use Rattle.model.specs.declared.states.State.{State}
use Rattle.checker.specs.declared.following.Successors.{Successors}
use Rattle.checker.specs.Rows.{Between, NextRow, after}
use Rattle.checker.specs.Successors.{coming, Came}
use Rattle.checker.proofs.Counting.{later_not_self, next_covers, next_after, after_falls}

-- s is at hand, and n the next row
module _ (q : Successors) (s n : State) (going : q.next ≡ Some s) (next : NextRow q.low.left q.high.left s.left n.left) where
  pub fewer : suc (after n.left q.low.left q.high.left) < coming q
  fewer =
      let here : coming q ≡ suc (after s.left q.low.left q.high.left) = rw going in
      let falls : suc (after n.left q.low.left q.high.left) ≡ after s.left q.low.left q.high.left =
      after_falls s.left n.left q.low.left q.high.left next.place (n.whole ∙ sym s.whole) (q.low.whole ∙ sym s.whole) (q.high.whole ∙ sym s.whole)
      (omega (arith, next.inside, s.whole)) next.full next.back next.room next.up next.same in
      omega (arith, falls, here)

  pub came : (r : Successors) → r.next ≡ Some n → r.low.left ≡ q.low.left → r.high.left ≡ q.high.left → Came q s.left r
  came r goes low_is high_is =
      let low = q.low.left in
      let high = q.high.left in
      record {
        due = record { between = record { long = s.whole; above = q.above s going; below = q.below s going }; later = rw going (inl refl) };
        still = λ y c.
            elim (rw going at c.later) [
              | inl e ↦ inl e
              | inr l ↦ inr (record {
                between = subst₂ (λ a b. Between a b y) (sym low_is) (sym high_is) c.between;
                later = rw goes (next_covers low high s.left n.left next y c.between l);
              })
            ];
        only = λ y c. record {
          between = subst₂ (λ a b. Between a b y) low_is high_is c.between;
          later = rw going (inr (next_after low high s.left n.left next y (rw goes at c.later)));
        };
        once = λ c. later_not_self s.left (next_after low high s.left n.left next s.left (rw goes at c.later));
      }
