use Rattle.std.proofs.Common.{take, ap, ◌∙◌}
use Rattle.std.proofs.lemmas.List.{take-replicate}
use Rattle.plan.specs.Contents.{count}
use Rattle.model.proofs.states.State.new.Goals as goal

pub returns : goal.returns
returns c = record {
  begins = λ p ok. ap (take (count p)) (cc) ∙ take-replicate (count p) 64 0 ok.few;
  blank = cc;
}
