use Rattle.checker.proofs.Counting.{Turned}
use Rattle.checker.proofs.following.counting.next_row.Given as goal

abbrev pub invariant-loop-place : goal.invariant-loop-place
invariant-loop-place l = Turned l.low.left l.high.left l.fn.state.left l.place l.now-items
