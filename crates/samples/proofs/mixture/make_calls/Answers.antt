use Rattle.std.proofs.Common.{map, subst}
use Rattle.samples.specs.Mixtures.{said, AllAnswered}
use Rattle.samples.proofs.Example.{some_history_has_each_kind}
use Rattle.samples.proofs.Mixing.{answered_as_listed}
use Rattle.samples.proofs.mixture.make_calls.Goals as goal

pub returns-clause-as_listed : goal.returns-clause-as_listed
returns-clause-as_listed c =
    let made = c.make_all.ensures in
    let replies = map said c.make_all.result in
    answered_as_listed made.0 _
    (subst (λ qs. AllAnswered qs replies made.0) c.calls.ensures.asks made.1)

pub returns-clause-each_kind : goal.returns-clause-each_kind
returns-clause-each_kind c = some_history_has_each_kind
