use Rattle.std.proofs.Common.{◌<◌, sym, subst, arith}
use Rattle.plan.specs.Contents.{contents}
use Rattle.plan.proofs.Facts.{sound}
use Rattle.checker.specs.Orders.{JoinedBefore}
use Rattle.checker.proofs.Leaders.{joined_told}
use Rattle.checker.proofs.priorities.Priorities.ready.Goals as goal

pub returns-then-state-place-gt0 : goal.returns-then-state-place-gt0
returns-then-state-place-gt0 c =
    let p = contents c.args.self.now.plan.now in
    let ok = sound c.args.self.now.plan.now in
    let few = ok.few in
    let inside : c.args.place < 64 = omega (arith, few) in
    joined_told p ok c.args.state.now.left c.args.place _ (c.args.self.now.joined c.args.place inside) c.requires
    (omega arith) c.all_done.result c.all_done.ensures
