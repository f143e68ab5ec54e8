use Rattle.std.proofs.Common.{◌≡◌, ◌+◌, ◌-◌, ◌≤◌, arith}
use Rattle.std.proofs.lemmas.Result.{err_from_is_err_and}
use Rattle.checker.proofs.Walking.{same_still, same_on, later_none, goes_on, later_on, halts_on}
use Rattle.checker.proofs.rounds.Rounds.walk.Goals as goal

pub loop-left-init : goal.loop-left-init
loop-left-init g c = record {
  inside = omega arith;
  same = same_still _ _ _ _ _;
  walked = λ w x.
      let none : c.args.units - c.args.units ≡ 0 = omega arith in
      rw none (later_none _ _ _ _ w _ x.0);
}

pub loop-left-preserved : goal.loop-left-preserved
loop-left-preserved g c =
    let n = c.in_ok-left.field-0 in
    let on = c.in_ok-left.ensures.goes in
    let gone : c.args.units - (c.loop-left.left - n) ≡ c.args.units - c.loop-left.left + n = omega (arith, on.1, c.loop-left.invariant.inside) in
    record {
      inside = omega (arith, c.loop-left.invariant.inside);
      same = same_on _ _ _ _ _ _ _ c.loop-left.invariant.same c.go_on.ensures.same;
      walked = λ w x.
          let so_far = c.loop-left.invariant.walked w x in
          let here = goes_on _ _ _ _ w c.args.units _ _ _ c.loop-left.invariant.same x so_far n (omega (arith, on.1, c.loop-left.invariant.inside)) in
          rw gone (later_on _ _ _ _ w c.args.units _ _ _ c.loop-left.invariant.same x so_far n _ (on.2 w here));
    }

pub returns-in_err-left-clause-same : goal.returns-in_err-left-clause-same
returns-in_err-left-clause-same g c = same_on _ _ _ _ _ _ _ c.loop-left.invariant.same c.go_on.ensures.same

pub returns-in_err-left-clause-walks : goal.returns-in_err-left-clause-walks
returns-in_err-left-clause-walks g c = λ w x.
    let p = err_from_is_err_and c.from_residual.result c.from_residual.ensures.1 in
    let more : c.args.units - c.loop-left.left + 1 ≤ c.args.units = omega (arith, c.loop-left.invariant.inside) in
    let so_far = c.loop-left.invariant.walked w x in
    let here = goes_on _ _ _ _ w c.args.units _ _ _ c.loop-left.invariant.same x so_far 1 more in
    rw (p.1, p.2) (halts_on _ _ _ _ w _ _ _ _ c.loop-left.invariant.same x so_far 1 more _ _ (c.in_err-left.ensures.goes w here))

pub returns-clause-walks : goal.returns-clause-walks
returns-clause-walks g c = λ w x.
    let all : c.args.units - c.loop-left.left ≡ c.args.units = omega arith in
    rw (← all) (c.loop-left.invariant.walked w x)
