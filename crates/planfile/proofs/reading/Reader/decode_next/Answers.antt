use Rattle.planfile.specs.Readers.{standing}
use Rattle.planfile.proofs.FiledRecords.{known_there, decoded_there}
use Rattle.planfile.proofs.reading.Reader.decode_next.Goals as goal

pub decode-requires : goal.decode-requires
decode-requires c = record { known = known_there _ (standing c.args.self.now) _ c.left.ensures c.requires.known }

pub returns : goal.returns
returns c = decoded_there _ (standing c.args.self.now) _ c.left.ensures _ c.decode.ensures
