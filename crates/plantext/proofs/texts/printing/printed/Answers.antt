use Rattle.std.proofs.Common.{◌++◌, ap, length, length-append, arith}
use Rattle.plan.specs.Contents.{contents}
use Rattle.plantext.specs.Texts.{core_lines, handler_lines, join_lines}
use Rattle.plantext.proofs.texts.printing.printed.Goals as goal

pub add_handlers-requires : goal.add_handlers-requires
add_handlers-requires c =
    let k = contents c.args.plan.now in
    let codes = c.args.codes.now in
    omega (
      arith,
      c.requires,
      ap length c.new-text.ensures,
      ap length c.add_cores.ensures,
      length-append c.new-text.result.bytes (core_lines codes),
      length-append (core_lines codes) (handler_lines k ++ join_lines k),
      length-append (handler_lines k) (join_lines k),
    )
