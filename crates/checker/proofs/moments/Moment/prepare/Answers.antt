use Rattle.std.proofs.Common.{◌≡◌, subst}
use Rattle.checker.specs.declared.priorities.Priorities.{Priorities}
use Rattle.checker.specs.Prepared.{IsPrepared}
use Rattle.checker.proofs.moments.Moment.prepare.Goals as goal

pub returns-in-Some-clause-prepared : goal.returns-in-Some-clause-prepared
returns-in-Some-clause-prepared g c x e =
    let is : c.prepare.new.self ≡ x = cc in
    subst (λ (s : Priorities). IsPrepared (g.D.Discipline.first c.args.d.now) c.if-states-ge-MANY_STATES.self.time s) is c.prepare.ensures.prepared
