use Rattle.std.proofs.Common.{arith}
use Rattle.planfile.proofs.Readings.{eight}
use Rattle.planfile.proofs.FiledWritten.{files_are_written}
use Rattle.planfile.proofs.FirstBytes.{first_bytes_decide}
use Rattle.planfile.proofs.Outcomes.{every_file_is_read_once}
use Rattle.planfile.proofs.reading.whole.read.Goals as goal

pub copy_from_slice-requires : goal.copy_from_slice-requires
copy_from_slice-requires c = let codes = eight _ _ _ c.in_ok-enter_all.ensures in grind (arith, c.told-codes, c.deref.ensures.0)

pub returns-in_err-enter_all-clause-written : goal.returns-in_err-enter_all-clause-written
returns-in_err-enter_all-clause-written c = files_are_written

pub returns-in_err-enter_all-clause-once : goal.returns-in_err-enter_all-clause-once
returns-in_err-enter_all-clause-once c = every_file_is_read_once

pub returns-clause-written : goal.returns-clause-written
returns-clause-written c = files_are_written

pub returns-clause-once : goal.returns-clause-once
returns-clause-once c = every_file_is_read_once

pub returns-in_err-enter_all-clause-first_bytes : goal.returns-in_err-enter_all-clause-first_bytes
returns-in_err-enter_all-clause-first_bytes c = first_bytes_decide

pub returns-clause-first_bytes : goal.returns-clause-first_bytes
returns-clause-first_bytes c = first_bytes_decide
