use Rattle.std.proofs.Common.{refl, arith}
use Rattle.report.proofs.Decoding.{code_there, one_more, all_are}
use Rattle.report.proofs.judging.all_decoded.Goals as goal

pub loop-place-init : goal.loop-place-init
loop-place-init c = record { long = refl; each = λ i l. absurd (omega (arith, l)) }

pub decoded-requires : goal.decoded-requires
decoded-requires c = code_there c.args.numbers.now c.loop-place.place c.requires c.loop-place-test.true

pub loop-place-preserved : goal.loop-place-preserved
loop-place-preserved c = one_more _ _ _ _ c.loop-place-test.true c.loop-place.invariant c.decoded.ensures

pub returns : goal.returns
returns c = all_are _ _ _ c.requires.eight (omega (arith, c.loop-place-test.false)) c.loop-place.invariant
