-- Where a reader stands.
use Rattle.std.specs.Prelude.{◌≡◌, Some, None, Option, Ok, Err, Result}
use Rattle.planfile.specs.declared.faults.Fault.{Fault}
use Rattle.planfile.specs.declared.reading.Reader.{Reader}
use Rattle.planfile.specs.declared.records.Record.{Record}
use Rattle.planfile.specs.Tests.{Standing, past}

abbrev pub standing : Reader → Standing
standing r = record { place = r.place; kind = r.kind; first = r.first; second = r.second; cores = r.cores }

-- a reader goes past the record that it answers; with none, and with a fault, it stays as it was
abbrev pub Moves : Result (Option Record) Fault → Reader → Reader → Type 0
Moves (Ok (Some r)) was is = (standing is ≡ past was.bytes.now (standing was)) × (is.bytes.now ≡ was.bytes.now)
Moves (Ok None) was is = is ≡ was
Moves (Err f) was is = is ≡ was
