use Rattle.std.proofs.Common.{rules, tests, ◌+◌, ◌-◌, ◌<◌, ◌≤◌, arith}
use Prim.Native.Nat.{◌∣◌}
use Rattle.plan.specs.Contents.{contents}
use Rattle.plan.proofs.Facts.{sound}
use Rattle.checker.proofs.Reading.{of_handler, kept, kept_is}
use Rattle.checker.proofs.lateness.late.Goals as goal

pub returns : goal.returns
returns c =
    let p = contents c.args.plan.now in
    let n = c.args.number in
    let ok = sound c.args.plan.now in
    let is = kept_is p ok c.args.state.now n in
    let told = of_handler p n (λ h. (0 < kept p ok c.args.state.now n) × (h.offset + h.period ≤ c.args.t) × (h.period ∣ c.args.t - h.offset)) c.is_some_and.result c.handler.result
    c.handler.ensures.test c.handler.ensures.value c.is_some_and.ensures (λ h q. search (rules, tests)) in
    grind (arith, told, is)
