use Rattle.planfile.proofs.WritingSteps.{puts_four}
use Rattle.planfile.proofs.writing.put_file.Goals as goal

pub returns : goal.returns
returns c =
    puts_four _ _ _ _ _ c.requires _ _ _ _ _ _ _ _ c.put_handlers-after_handlers.ensures c.put_joins-after_joins.ensures c.put_cores-after_cores.ensures c.put.ensures
