use Rattle.std.proofs.Common.{◌≤◌, refl, sym, length, arith}
use Rattle.checker.proofs.Judging.{at_first, looks_first, early_rows, early_other, closed, closed_rows, closed_looks, full, full_looks, fault, fault_looked, early}
use Rattle.checker.proofs.rounds.judge.Goals as goal

pub returns-in-Err-clause-verdict : goal.returns-in-Err-clause-verdict
returns-in-Err-clause-verdict g c = λ same few.
    let halts = c.in-Err.ensures.settles _ c.new.ensures.clock refl (sym same) in
    rw c.judged.ensures.verdict (at_first _ _ _ _ _ _ _ _ c.new.ensures.of_plan _ halts _)

pub returns-in-Err-clause-marks : goal.returns-in-Err-clause-marks
returns-in-Err-clause-marks g c = λ same few.
    let halts = c.in-Err.ensures.settles _ c.new.ensures.clock refl (sym same) in
    rw c.judged.ensures.verdict (early_rows _ _ _ _ halts.stopped.early)

pub returns-in-Err-clause-frame : goal.returns-in-Err-clause-frame
returns-in-Err-clause-frame g c = λ same few kept.
    let halts = c.in-Err.ensures.settles _ c.new.ensures.clock refl (sym same) in
    early_other _ halts.stopped.early (rw c.judged.ensures.verdict at kept)

pub returns-in-Err-clause-watched : goal.returns-in-Err-clause-watched
returns-in-Err-clause-watched g c = λ same few.
    let halts = c.in-Err.ensures.settles _ c.new.ensures.clock refl (sym same) in
    rw (c.judged.ensures.verdict, c.judged.ensures.observer) (looks_first _ _ _ _ _ _ _ _ c.new.ensures.of_plan _ halts)

pub returns-in-Ok-gather_into-clause-verdict : goal.returns-in-Ok-gather_into-clause-verdict
returns-in-Ok-gather_into-clause-verdict g c = λ same few.
    let begun = c.in-Ok.ensures.settles _ c.new.ensures.clock refl (sym same) in
    let fits : length (g.M.Table.members c.gather_into.new.table) ≤ g.M.Table.room c.args.marks.now = omega (arith, g.met.M.Table.fits c.gather_into.new.table, c.in-Ok-gather_into.ensures.same_room) in
    rw c.judged-in-Ok-gather_into.ensures.verdict (closed _ _ _ _ _ _ _ _ _ c.new.ensures.of_plan c.in-Ok.ensures.same begun few c.gather_into.new.rule (g.M.Table.members c.gather_into.new.table) c.in-Ok-gather_into.closed fits c.in-Ok-gather_into.ensures.gathers)

pub returns-in-Ok-gather_into-clause-marks : goal.returns-in-Ok-gather_into-clause-marks
returns-in-Ok-gather_into-clause-marks g c = λ same few.
    let begun = c.in-Ok.ensures.settles _ c.new.ensures.clock refl (sym same) in
    let fits : length (g.M.Table.members c.gather_into.new.table) ≤ g.M.Table.room c.args.marks.now = omega (arith, g.met.M.Table.fits c.gather_into.new.table, c.in-Ok-gather_into.ensures.same_room) in
    rw c.judged-in-Ok-gather_into.ensures.verdict (closed_rows _ _ _ _ _ _ _ _ _ c.new.ensures.of_plan c.in-Ok.ensures.same begun few c.gather_into.new.rule (g.M.Table.members c.gather_into.new.table) c.in-Ok-gather_into.closed fits c.in-Ok-gather_into.ensures.gathers)

pub returns-in-Ok-gather_into-clause-watched : goal.returns-in-Ok-gather_into-clause-watched
returns-in-Ok-gather_into-clause-watched g c = λ same few.
    let begun = c.in-Ok.ensures.settles _ c.new.ensures.clock refl (sym same) in
    let fits : length (g.M.Table.members c.gather_into.new.table) ≤ g.M.Table.room c.args.marks.now = omega (arith, g.met.M.Table.fits c.gather_into.new.table, c.in-Ok-gather_into.ensures.same_room) in
    rw (c.judged-in-Ok-gather_into.ensures.verdict, c.judged-in-Ok-gather_into.ensures.observer) (closed_looks _ _ _ _ _ _ _ _ _ c.new.ensures.of_plan c.in-Ok.ensures.same begun few c.gather_into.new.rule (g.M.Table.members c.gather_into.new.table) c.in-Ok-gather_into.closed fits c.in-Ok-gather_into.ensures.gathers)

pub returns-in-Err-Full-clause-verdict : goal.returns-in-Err-Full-clause-verdict
returns-in-Err-Full-clause-verdict g c = λ same few.
    let begun = c.in-Ok.ensures.settles _ c.new.ensures.clock refl (sym same) in
    let h = rw (c.in-Err-Full.ensures.same_room, c.in-Err-Full.field-0-is) at c.in-Err-Full.ensures.gathers in
    rw (c.judged-in-Err-Full.ensures.verdict, c.short.ensures, c.time-time.ensures) (full _ _ _ _ _ _ _ _ _ c.new.ensures.of_plan c.in-Ok.ensures.same begun few c.gather_into.new.rule (g.M.Table.members c.gather_into.new.table) c.in-Err-Full.field-0-0 h)

pub returns-in-Err-Full-clause-watched : goal.returns-in-Err-Full-clause-watched
returns-in-Err-Full-clause-watched g c = λ same few.
    let begun = c.in-Ok.ensures.settles _ c.new.ensures.clock refl (sym same) in
    let h = rw (c.in-Err-Full.ensures.same_room, c.in-Err-Full.field-0-is) at c.in-Err-Full.ensures.gathers in
    rw (c.judged-in-Err-Full.ensures.verdict, c.judged-in-Err-Full.ensures.observer, c.short.ensures, c.time-time.ensures) (full_looks _ _ _ _ _ _ _ _ _ c.new.ensures.of_plan c.in-Ok.ensures.same begun few c.gather_into.new.rule (g.M.Table.members c.gather_into.new.table) c.in-Err-Full.field-0-0 h)

pub returns-in-Err-Fault-clause-verdict : goal.returns-in-Err-Fault-clause-verdict
returns-in-Err-Fault-clause-verdict g c = λ same few.
    let begun = c.in-Ok.ensures.settles _ c.new.ensures.clock refl (sym same) in
    let fits : length (g.M.Table.members c.gather_into.new.table) ≤ g.M.Table.room c.args.marks.now = omega (arith, g.met.M.Table.fits c.gather_into.new.table, c.in-Err-Fault.ensures.same_room) in
    let h = rw (c.in-Err-Fault.ensures.same_room, c.in-Err-Fault.field-0-is) at c.in-Err-Fault.ensures.gathers in
    rw c.judged-in-Err-Fault.ensures.verdict (fault _ _ _ _ _ _ _ _ _ c.new.ensures.of_plan c.in-Ok.ensures.same begun few c.gather_into.new.rule (g.M.Table.members c.gather_into.new.table) c.in-Err-Fault.field-0-0 c.in-Err-Fault.field-0-1 _ fits h)

pub returns-in-Err-Fault-clause-marks : goal.returns-in-Err-Fault-clause-marks
returns-in-Err-Fault-clause-marks g c = λ same few.
    let begun = c.in-Ok.ensures.settles _ c.new.ensures.clock refl (sym same) in
    let fits : length (g.M.Table.members c.gather_into.new.table) ≤ g.M.Table.room c.args.marks.now = omega (arith, g.met.M.Table.fits c.gather_into.new.table, c.in-Err-Fault.ensures.same_room) in
    let h = rw (c.in-Err-Fault.ensures.same_room, c.in-Err-Fault.field-0-is) at c.in-Err-Fault.ensures.gathers in
    rw c.judged-in-Err-Fault.ensures.verdict (early_rows _ _ _ _ (early _ _ _ _ _ _ _ _ _ c.new.ensures.of_plan c.in-Ok.ensures.same begun few c.gather_into.new.rule (g.M.Table.members c.gather_into.new.table) c.in-Err-Fault.field-0-0 c.in-Err-Fault.field-0-1 _ fits h))

pub returns-in-Err-Fault-clause-watched : goal.returns-in-Err-Fault-clause-watched
returns-in-Err-Fault-clause-watched g c = λ same few.
    let begun = c.in-Ok.ensures.settles _ c.new.ensures.clock refl (sym same) in
    let fits : length (g.M.Table.members c.gather_into.new.table) ≤ g.M.Table.room c.args.marks.now = omega (arith, g.met.M.Table.fits c.gather_into.new.table, c.in-Err-Fault.ensures.same_room) in
    let h = rw (c.in-Err-Fault.ensures.same_room, c.in-Err-Fault.field-0-is) at c.in-Err-Fault.ensures.gathers in
    rw (c.judged-in-Err-Fault.ensures.verdict, c.judged-in-Err-Fault.ensures.observer) (fault_looked _ _ _ _ _ _ _ _ _ c.new.ensures.of_plan c.in-Ok.ensures.same begun few c.gather_into.new.rule (g.M.Table.members c.gather_into.new.table) c.in-Err-Fault.field-0-0 c.in-Err-Fault.field-0-1 _ fits h)
