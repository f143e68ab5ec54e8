use Rattle.report.proofs.Decoding.{is_decoded}
use Rattle.report.proofs.judging.decoded.Goals as goal

pub unwrap-requires : goal.unwrap-requires
unwrap-requires c = is_decoded c.args.number c.try_from.result c.requires c.try_from.ensures
