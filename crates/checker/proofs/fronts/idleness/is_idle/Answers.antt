use Rattle.std.proofs.Common.{◌≡◌, Decides}
use Rattle.model.specs.Same.{state_told}
use Rattle.checker.proofs.Idling.{idle_told}
use Rattle.checker.proofs.fronts.idleness.is_idle.Goals as goal

pub returns-in-len1 : goal.returns-in-len1
returns-in-len1 g c =
    let told : Decides c.eq.result (c.state-item.result ≡ c.new.result) = rw c.eq.ensures (state_told c.state-item.result c.new.result) in
    rw c.rows.ensures at (idle_told c.rows.result.now c.state-item.result c.new.result c.eq.result c.in-len1.len_at_least c.in-len1.len_below c.state-item.is c.new.ensures.blank told)
