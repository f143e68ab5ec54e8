use Rattle.std.proofs.Common.{◌-◌, ◌≤◌, vec_items}
use Rattle.plan.specs.Contents.{contents}
use Rattle.orders.specs.Rows.{RowTo}
use Rattle.orders.proofs.on_core.Given as goal

abbrev pub invariant-loop-number : goal.invariant-loop-number
invariant-loop-number l = record {
  from : 1 ≤ l.number;
  row : RowTo (contents l.plan) l.core (l.number - 1) (vec_items l.row);
}
