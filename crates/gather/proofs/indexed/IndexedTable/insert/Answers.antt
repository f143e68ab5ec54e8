use Rattle.std.proofs.Common.{◌<◌, length, arith, rules}
use Rattle.gather.proofs.Filed.{fits_push, housed_push, headed_push, linked_push, once_push_row}
use Rattle.gather.proofs.indexed.IndexedTable.insert.Goals as goal

pub invariant_of-self-4-clause-fits : goal.invariant_of-self-4-clause-fits
invariant_of-self-4-clause-fits g c =
    let s = c.args.self.now in
    fits_push s.rows.now s.heads.now s.homes.now s.next.now s.count c.home-home.result _ _ _ _ s.fits

pub invariant_of-self-4-clause-linked : goal.invariant_of-self-4-clause-linked
invariant_of-self-4-clause-linked g c =
    let s = c.args.self.now in
    let housed : s.count < length s.homes.now = omega (arith, s.few, s.fits) in
    let linked : s.count < length s.next.now = omega (arith, s.few, s.fits) in
    linked_push s.heads.now s.homes.now s.next.now s.count c.home-home.result c.last-last.result
    housed linked c.last-last.ensures s.linked

pub invariant_of-self-4-clause-headed : goal.invariant_of-self-4-clause-headed
invariant_of-self-4-clause-headed g c =
    let s = c.args.self.now in
    let housed : s.count < length s.homes.now = omega (arith, s.few, s.fits) in
    headed_push s.heads.now s.homes.now s.next.now s.count c.home-home.result c.last-last.result
    housed c.home-home.ensures.within s.headed

pub invariant_of-self-4-clause-housed : goal.invariant_of-self-4-clause-housed
invariant_of-self-4-clause-housed g c =
    let s = c.args.self.now in
    let housed : s.count < length s.homes.now = omega (arith, s.few, s.fits) in
    housed_push s.heads.now s.homes.now s.next.now s.count c.home-home.result c.last-last.result
    housed g.T.Element.filed s.rows.now c.args.element.now (omega (arith, s.few)) c.home-home.ensures.is s.housed

pub invariant_of-self-4-clause-apart : goal.invariant_of-self-4-clause-apart
invariant_of-self-4-clause-apart g c =
    let s = c.args.self.now in
    once_push_row s.rows.now s.count c.args.element.now (omega (arith, s.few)) s.apart (search rules)
