use Rattle.std.proofs.Common.{◌≡◌, ◌<◌, ◌+◌, ◌-◌, length, refl, arith, rules}
use Rattle.gather.proofs.Filed.{behind_more, here_more, has_read, not_read}
use Rattle.gather.proofs.indexed.Indexed.holds.Goals as goal

pub returns-then-eq : goal.returns-then-eq
returns-then-eq g c =
    let s = c.args.self.now in
    let row = c.loop-link.link - 1 in
    let lt : row < s.count = omega (arith, c.loop-link.invariant.few, c.loop-link-test.true) in
    let has = has_read g.T.PartialEq.eq g.met.T.Element.told s.rows.now s.count row lt s.few
    c.index-rows-row.result c.args.element.now c.index-rows-row.is (search rules) in
    (λ _. has, λ _. refl)

pub loop-link-preserved : goal.loop-link-preserved
loop-link-preserved g c =
    let s = c.args.self.now in
    let filed = g.T.Element.filed in
    let places = length s.heads.now in
    let x = c.args.element.now in
    let row = c.loop-link.link - 1 in
    let lt : row < s.count = omega (arith, c.loop-link.invariant.few, c.loop-link-test.true) in
    let on : c.loop-link.link ≡ row + 1 = omega (arith, c.loop-link-test.true) in
    let here = c.loop-link.invariant.here row on in
    let not = not_read g.T.PartialEq.eq g.met.T.Element.told s.rows.now s.count row lt s.few
    c.index-rows-row.result x c.index-rows-row.is (search rules) in
    record {
      few = omega (arith, (s.linked row lt).0, c.loop-link.invariant.few);
      here = here_more filed places s.count s.homes.now s.rows.now x s.housed s.next.now s.linked
          row lt here not (λ j le jl. c.loop-link.invariant.behind j (omega arith) jl);
      behind = behind_more filed places s.count s.homes.now s.rows.now x s.housed s.next.now s.linked
          row lt here not (λ j le jl. c.loop-link.invariant.behind j (omega arith) jl);
    }
