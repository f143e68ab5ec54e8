use Rattle.planfile.proofs.LengthsReached.{longest_file}
use Rattle.planfile.proofs.FiledRead.{written_is_read}
use Rattle.planfile.proofs.writing.write.Goals as goal

pub returns-then-any-clause-longest : goal.returns-then-any-clause-longest
returns-then-any-clause-longest c = longest_file

pub returns-then-buffer-file_length-clause-longest : goal.returns-then-buffer-file_length-clause-longest
returns-then-buffer-file_length-clause-longest c = longest_file

pub returns-clause-longest : goal.returns-clause-longest
returns-clause-longest c = longest_file

pub returns-then-any-clause-read_back : goal.returns-then-any-clause-read_back
returns-then-any-clause-read_back c = written_is_read

pub returns-then-buffer-file_length-clause-read_back : goal.returns-then-buffer-file_length-clause-read_back
returns-then-buffer-file_length-clause-read_back c = written_is_read

pub returns-clause-read_back : goal.returns-clause-read_back
returns-clause-read_back c = written_is_read
