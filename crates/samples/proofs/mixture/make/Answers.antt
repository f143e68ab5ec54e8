use Rattle.std.proofs.Common.{sym, refl, ap, arith}
use Rattle.plan.specs.Histories.{registered, joined, reseated}
use Rattle.model.specs.Histories.{changes}
use Rattle.samples.specs.Mixtures.{asked}
use Rattle.samples.proofs.mixture.make.Goals as goal

pub returns-in-Register : goal.returns-in-Register
returns-in-Register c = record {
  event = changes (registered c.in-Register.handler c.register.result);
  asks = sym (ap asked c.in-Register.is);
  answers = refl;
  makes = ((omega arith, omega arith, omega arith, omega arith), c.register.ensures.registers);
}

pub returns-in-Join : goal.returns-in-Join
returns-in-Join c = record {
  event = changes (joined c.in-Join.first c.in-Join.second c.join.result);
  asks = sym (ap asked c.in-Join.is);
  answers = refl;
  makes = c.join.ensures.joins;
}

pub returns-in-Reseat : goal.returns-in-Reseat
returns-in-Reseat c = record {
  event = changes (reseated c.in-Reseat.number c.in-Reseat.core c.reseat.result);
  asks = sym (ap asked c.in-Reseat.is);
  answers = refl;
  makes = c.reseat.ensures.reseats;
}
