use Rattle.plan.proofs.Routes.{closing, no_burst}
use Rattle.plan.proofs.plans.joining.leads.Goals as goal

pub unreachable-requires : goal.unreachable-requires
unreachable-requires c =
    no_burst _ c.args.from (rw c.new-level.ensures at c.push.ensures.items) c.requires.first.0 c.requires.first.1 c.requires.inside c.gather.auto.found (rw c.in-Err-Full.field-0-is at c.in-Err-Full.ensures)

pub returns : goal.returns
returns c = closing _ c.args.from (rw c.new-level.ensures at c.push.ensures.items) c.requires.first.0 c.requires.first.1 c.requires.inside c.in-Ok.ensures.front c.args.to c.contains.result c.requires.second c.contains.ensures.cases
