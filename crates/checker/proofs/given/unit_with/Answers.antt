use Rattle.checker.proofs.given.unit_with.Goals as goal

pub returns-clause-given : goal.returns-clause-given
returns-clause-given g c = record {
  begun = c.in_ok-taken.taken.state;
  given = c.in_ok-taken.ensures.given;
  served = c.serve.ensures.served;
  rest = c.serve.ensures.rest;
}
