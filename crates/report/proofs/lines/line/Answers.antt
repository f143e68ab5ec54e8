use Rattle.std.proofs.Common.{rules}
use Rattle.planfile.specs.Theorems.{AreBytes}
use Rattle.report.proofs.Reading.{prints_whole}
use Rattle.report.proofs.Telling.{lines_tell}
use Rattle.report.specs.Lines.{Prints}
use Rattle.report.proofs.lines.line.Goals as goal

pub returns-clause-tells : goal.returns-clause-tells
returns-clause-tells c = lines_tell

pub returns-clause-whole : goal.returns-clause-whole
returns-clause-whole c =
    let small : AreBytes c.args.bytes.now = search rules in
    let prints : Prints c.args.bytes.now c.push_str-2.new.self.bytes = search rules in
    prints_whole c.args.bytes.now c.push_str-2.new.self.bytes small prints
