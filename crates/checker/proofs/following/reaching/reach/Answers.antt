use Rattle.std.proofs.Common.{◌≡◌, ◌+◌, ◌-◌, ◌≤◌, length, arith}
use Rattle.plan.specs.Contents.{contents, count, Known}
use Rattle.plan.proofs.Facts.{sound}
use Rattle.checker.specs.Reaching.{ReachesTo}
use Rattle.checker.proofs.Reaching.{reaches_none, reaches_skips, reaches_starts}
use Rattle.checker.proofs.following.reaching.reach.Goals as goal
use Rattle.checker.proofs.following.reaching.reach.Goals.{Left-loop-number, else-loop-number-test, then-loop-number-test+else-number-number-end, in-Some, in_default}

pub loop-number-init : goal.loop-number-init
loop-number-init c = record { inside = omega arith; reached = reaches_none }

pub loop-number-preserved : goal.loop-number-preserved
loop-number-preserved c =
    let n = c.loop-number.number in
    let known : Known (contents c.args.moment.now.plan.now) n = (omega arith, omega arith) in
    let inside : count (contents c.args.moment.now.plan.now) ≤ length c.args.state.now.left = omega (arith, (sound c.args.moment.now.plan.now).few, c.args.state.now.whole) in
    let before = c.loop-number.invariant.reached in
    let e : n + 1 - 1 ≡ n = omega arith in
    record {
      inside = omega arith;
      reached = elim c.match-starter.branch [
        | in-Some w ↦ rw (e, w.low-is, w.high-is) (reaches_starts n known before inside w.in-Some.handler w.in-Some.ensures)
        | in_default w ↦ rw (e, w.low-is, w.high-is) (reaches_skips n known before w.in_default.ensures)
      ];
    }

-- after the loop all have had their turn; the last is in the loop's last round
all : (c : Left-loop-number)
    → ReachesTo (contents c.args.moment.now.plan.now) c.args.moment.now.time c.args.state.now.left (count (contents c.args.moment.now.plan.now)) c.loop-number-test.low.0 c.loop-number-test.high.0
all c =
    let n = c.loop-number.number in
    let before = c.loop-number.invariant.reached in
    elim c.loop-number-test.branch [
      | else-loop-number-test w ↦ (let e : count (contents c.args.moment.now.plan.now) ≡ n - 1 = omega arith in rw (e, w.low-is, w.high-is) before)
      | then-loop-number-test+else-number-number-end w ↦ (
          let known : Known (contents c.args.moment.now.plan.now) n = (omega arith, omega arith) in
          let inside : count (contents c.args.moment.now.plan.now) ≤ length c.args.state.now.left = omega (arith, (sound c.args.moment.now.plan.now).few, c.args.state.now.whole) in
          let e : count (contents c.args.moment.now.plan.now) ≡ n = omega arith in
          elim w.match-starter.branch [
            | in-Some v ↦ rw (e, w.low-is, w.high-is, v.low-is, v.high-is) (reaches_starts n known before inside v.in-Some.handler v.in-Some.ensures)
            | in_default v ↦ rw (e, w.low-is, w.high-is, v.low-is, v.high-is) (reaches_skips n known before v.in_default.ensures)
          ])
    ]

pub returns : goal.returns
returns c = all (goal.at.returns c).Left-loop-number
