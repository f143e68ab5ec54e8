use Rattle.std.proofs.Common.{refl}
use Rattle.checker.proofs.Comes.{came, fewer}
use Rattle.checker.proofs.following.counting.SuccessorsIterator.next.Goals as goal

pub returns-in-Some : goal.returns-in-Some
returns-in-Some c =
    let q = c.args.self.now in
    let s = c.in_ok-state.state in
    let n = c.in-Some.next in
    record {
      steps = came q s n c.in_ok-state.was c.in-Some.ensures _ refl refl refl;
      goes = record { on = λ _. (tt, tt, fewer q s n c.in_ok-state.was c.in-Some.ensures); keeps = tt; rests = λ _. tt };
    }
