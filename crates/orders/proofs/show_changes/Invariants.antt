use Rattle.std.proofs.Common.{◌-◌}
use Rattle.orders.proofs.show_changes.Given as goal

abbrev pub decreases-loop-t : goal.decreases-loop-t
decreases-loop-t g l = l.end - l.from
