use Rattle.std.proofs.Common.{refl}
use Rattle.std.proofs.lemmas.Result.{err_from_is_err_and}
use Rattle.plantext.proofs.listing.Listing.add_join.Goals as goal

pub returns-clause-took : goal.returns-clause-took
returns-clause-took c = (rw (c.byte.ensures, c.byte-2.ensures) at c.in_ok-join.ensures.joins, refl)

pub returns-in_err-join-clause-took : goal.returns-in_err-join-clause-took
returns-in_err-join-clause-took c =
    let p = err_from_is_err_and c.from_residual.result c.from_residual.ensures.1 in
    let refused = rw (c.byte.ensures, c.byte-2.ensures, c.in_err-join.ensures.untouched) at c.in_err-join.ensures.joins in
    rw p.1 (c.in_err-join.field-0.0, p.2, refused)
