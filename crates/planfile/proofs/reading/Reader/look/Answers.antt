use Rattle.std.proofs.Common.{rules}
use Rattle.planfile.proofs.reading.Reader.look.Goals as goal

pub returns : goal.returns
returns c = (search rules, search rules)
