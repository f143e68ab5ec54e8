use Rattle.std.proofs.Common.{◌≡◌, arith}
use Rattle.plan.specs.Contents.{contents}
use Rattle.planfile.proofs.Lengths.{file_length, joins_length}
use Rattle.planfile.proofs.writing.file_length.Goals as goal

pub overflow_add-result : goal.overflow_add-result
overflow_add-result c =
    let ten : c.record_length.result ≡ 10 = c.record_length.ensures in
    rw ten (omega (arith, c.count.type_inv, c.joins_length.ensures, joins_length (contents c.args.plan.now) (omega (arith, c.count.ensures, c.count.type_inv))))

pub overflow_add-result-2 : goal.overflow_add-result-2
overflow_add-result-2 c =
    let ten : c.record_length.result ≡ 10 = c.record_length.ensures in
    rw (ten, c.record_length-2.ensures) (omega (arith, c.count.type_inv, c.joins_length.ensures, joins_length (contents c.args.plan.now) (omega (arith, c.count.ensures, c.count.type_inv))))

pub overflow_add-result-3 : goal.overflow_add-result-3
overflow_add-result-3 c =
    let ten : c.record_length.result ≡ 10 = c.record_length.ensures in
    rw (ten, c.record_length-2.ensures, c.record_length-3.ensures) (omega (arith, c.count.type_inv, c.joins_length.ensures, joins_length (contents c.args.plan.now) (omega (arith, c.count.ensures, c.count.type_inv))))

pub returns : goal.returns
returns c =
    let ten : c.record_length.result ≡ 10 = c.record_length.ensures in
    rw (ten, c.record_length-2.ensures, c.record_length-3.ensures) (omega (arith, c.count.ensures, c.joins_length.ensures, file_length (contents c.args.plan.now) c.args.codes.now c.told-codes))
