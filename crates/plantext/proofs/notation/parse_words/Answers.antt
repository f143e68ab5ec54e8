use Rattle.plantext.specs.declared.notation.Line.TheVariants.{Handler, Join, CoreCode}
use Rattle.plantext.specs.Problems.{in_handler, in_join, in_core}
use Rattle.plantext.proofs.Fields.{split_one}
use Rattle.plantext.proofs.Starts.{made}
use Rattle.plantext.proofs.notation.parse_words.Goals as goal

pub returns-in-handler-clause-parses : goal.returns-in-handler-clause-parses
returns-in-handler-clause-parses c =
    let is = split_one c.args.words.now _ c.in-handler.len_at_least c.in-handler.is-handler in
    made Handler _ _ _ _ _ c.map.ensures.cases c.handler.ensures (λ h says. (_, is, says)) (λ p fails. in_handler (_, is, fails))

pub returns-in-join-clause-parses : goal.returns-in-join-clause-parses
returns-in-join-clause-parses c =
    let is = split_one c.args.words.now _ c.in-join.len_at_least c.in-join.is-join in
    made Join _ _ _ _ _ c.map-in-join.ensures.cases c.join.ensures (λ j says. (_, is, says)) (λ p fails. in_join (_, is, fails))

pub returns-in-core-clause-parses : goal.returns-in-core-clause-parses
returns-in-core-clause-parses c =
    let is = split_one c.args.words.now _ c.in-core.len_at_least c.in-core.is-core in
    made CoreCode _ _ _ _ _ c.map-in-core.ensures.cases c.core.ensures (λ k says. says) (λ p fails. in_core (_, is, fails))
