use Rattle.std.proofs.Common.{◌≡◌, ◌∙◌, rules}
use Rattle.std.proofs.lemmas.Result.{err_from_is_err_and}
use Rattle.gather.proofs.Ending.{faulted, passed}
use Rattle.planfile.specs.Readers.{standing}
use Rattle.planfile.proofs.Readings.{begun, entered_or_not, room, further, refused_entry}
use Rattle.planfile.proofs.reading.whole.enter_all.Goals as goal

pub loop-next-init : goal.loop-next-init
loop-next-init c =
    (c.new-reader.ensures.bytes, search rules, begun _ _ _ _ c.new-reader.ensures.outset c.requires.plan c.requires.codes)

pub enter-requires : goal.enter-requires
enter-requires c =
    let i = c.loop-next.invariant in
    room _ _ _ _ i.2 c.in-Some.next (rw (i.0, c.in-Some.is) at c.in_ok-next.ensures.next)

pub loop-next-preserved : goal.loop-next-preserved
loop-next-preserved c =
    let i = c.loop-next.invariant in
    let n = rw c.in-Some.is at c.in_ok-next.ensures in
    let entered = passed _ _ c.in_ok-map_err.ensures.variant (entered_or_not _ _ _ _ _ _ c.enter.ensures) in
    (n.moves.1 ∙ i.0, search rules, further _ _ _ _ i.2 c.in-Some.next (rw i.0 at n.next) _ _ _ (rw i.0 at n.moves.0) entered)

pub returns-in_err-map_err : goal.returns-in_err-map_err
returns-in_err-map_err c =
    let i = c.loop-next.invariant in
    let p = err_from_is_err_and c.from_residual-in_err-map_err.result c.from_residual-in_err-map_err.ensures.1 in
    let f = faulted _ _ _ c.in_err-map_err.ensures.variant c.in_err-map_err.ensures.cases (entered_or_not _ _ _ _ _ _ c.enter.ensures) in
    let is : c.in_err-map_err.field-0.0 ≡ record { cause = f.0; place = c.loop-next.reader.place } = search rules in
    rw (p.1, p.2) (refused_entry _ (standing c.loop-next.reader) _ _ i.2 c.in-Some.next (rw (i.0, c.in-Some.is) at c.in_ok-next.ensures.next) f.0 _ f.2 is)
