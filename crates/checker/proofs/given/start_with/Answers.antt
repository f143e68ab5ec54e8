use Rattle.std.proofs.Common.{◌≡◌, ◌+◌, ◌-◌, arith}
use Rattle.std.proofs.lemmas.Bool.Decides.{nat_tests}
use Rattle.std.proofs.lemmas.Result.{err_from_is_err_and}
use Rattle.plan.specs.Contents.{contents, count, Known}
use Rattle.plan.proofs.Facts.{sound}
use Rattle.checker.proofs.Taking.{HadTurns, had_none, had_rests, had_takes, had_stops, given_long, given_started, given_rest}
use Rattle.checker.proofs.given.start_with.Goals as goal
use Rattle.checker.proofs.given.start_with.Goals.{Left-loop-number, else-loop-number-test, then-loop-number-test+else-number-number-end, in-Some+in_ok-time, in_default}

pub loop-number-init : goal.loop-number-init
loop-number-init c = record { inside = omega arith; had = had_none }

pub loop-number-preserved : goal.loop-number-preserved
loop-number-preserved c =
    let n = c.loop-number.number in
    let known : Known (contents c.args.plan.now) n = (omega arith, omega arith) in
    let had = c.loop-number.invariant.had in
    let e : n + 1 - 1 ≡ n = omega arith in
    record {
      inside = omega arith;
      had = elim c.match-starter.branch [
        | in-Some+in_ok-time w ↦ rw (e, w.state-is, w.rest-is) (had_takes n known had w.in-Some.handler w.in-Some.ensures w.in_ok-time.time w.in_ok-time.others.now w.in_ok-time.ensures)
        | in_default w ↦ rw (e, w.state-is, w.rest-is) (had_rests n known had w.in_default.ensures)
      ];
    }

pub returns-in_err-time-clause-given : goal.returns-in_err-time-clause-given
returns-in_err-time-clause-given c =
    let n = c.loop-number.number in
    let known : Known (contents c.args.plan.now) n = (omega arith, omega arith) in
    let e = err_from_is_err_and c.from_residual.result c.from_residual.ensures.1 in
    rw (e.1, e.2) (had_stops n known c.loop-number.invariant.had c.in-Some.handler c.in-Some.ensures c.in_err-time.field-0.0 c.in_err-time.ensures)

-- after the loop all have had their turn; the last is in the loop's last round
all : (c : Left-loop-number)
    → HadTurns (contents c.args.plan.now) c.args.t c.args.list.now c.args.state.left (count (contents c.args.plan.now)) c.loop-number-test.state.0 c.loop-number-test.rest.now
all c =
    let n = c.loop-number.number in
    let had = c.loop-number.invariant.had in
    elim c.loop-number-test.branch [
      | else-loop-number-test w ↦ (let e : count (contents c.args.plan.now) ≡ n - 1 = omega arith in rw (e, w.state-is, w.rest-is) had)
      | then-loop-number-test+else-number-number-end w ↦ (
          let known : Known (contents c.args.plan.now) n = (omega arith, omega arith) in
          let e : count (contents c.args.plan.now) ≡ n = omega arith in
          elim w.match-starter.branch [
            | in-Some+in_ok-time v ↦ rw (e, w.state-is, w.rest-is, v.state-is, v.rest-is) (had_takes n known had v.in-Some.handler v.in-Some.ensures v.in_ok-time.time v.in_ok-time.others.now v.in_ok-time.ensures)
            | in_default v ↦ rw (e, w.state-is, w.rest-is, v.state-is, v.rest-is) (had_rests n known had v.in_default.ensures)
          ])
    ]

pub invariant_of-state : goal.invariant_of-state
invariant_of-state c = record { whole = given_long (sound c.args.plan.now) c.args.state.whole (all c) }

pub returns : goal.returns
returns c =
    let ok = sound c.args.plan.now in
    let whole = c.args.state.whole in
    let had = all (goal.at.returns c).Left-loop-number in
    record {
      given = had.given;
      started = given_started ok whole had;
      rest = given_rest ok whole had;
      few = had.few;
      unused = had.unused;
      told = λ x y. grind (arith, nat_tests);
    }
