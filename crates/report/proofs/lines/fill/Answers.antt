use Rattle.std.proofs.Common.{sym, subst}
use Rattle.std.specs.Io.KnownBytes.{Consumes}
use Rattle.report.proofs.Reading.{consumes_on, fits_more, came_more}
use Rattle.report.proofs.lines.fill.Goals as goal

pub reads-preserved : goal.reads-preserved
reads-preserved g c =
    let so_far = c.reads.invariant in
    let was = g.R.Read.remaining c.args.input.now in
    let left = g.R.Read.remaining c.read_some.new.input in
    let within = c.in_ok-count.ensures.bound.0 in
    record {
      fits = fits_more _ _ _ _ _ so_far.fits within;
      came =
          subst (λ bytes. Consumes was left bytes) (sym (came_more _ _ _ _ _ so_far.fits within))
          (consumes_on was _ left _ _ so_far.came c.in_ok-count.ensures.bytes.0);
    }
