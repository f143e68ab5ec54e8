use Rattle.std.proofs.Common.{◌≡◌, ℕ, ◌+◌, ◌-◌, ◌<◌, subst, arith}
use Rattle.plan.specs.Contents.{Contents, contents}
use Rattle.checker.specs.Starting.{NobodyStarts, SomebodyStarts, Quiet, NextStart}
use Rattle.checker.proofs.Finding.{nobody_word}
use Rattle.checker.proofs.moments.Moment.go_on.Goals as goal

-- so long as nobody starts
module _ (p : Contents) (t later quiet : ℕ) (still : Quiet p t quiet) (after : 0 < later - t) (before : later - t < quiet) where
  nobody_later : NobodyStarts p later
  nobody_later = let e : t + (later - t) ≡ later = omega arith in subst (NobodyStarts p) e (still (later - t) after before)

  still_later : Quiet p later (quiet - (later - t))
  still_later k above below =
      let e : t + (later - t + k) ≡ later + k = omega arith in
      subst (NobodyStarts p) e (still (later - t + k) (omega arith) (omega arith))

  next_later : NextStart p t quiet → NextStart p later (quiet - (later - t))
  next_later next some = let e : t + quiet ≡ later + (quiet - (later - t)) = omega arith in subst (SomebodyStarts p) e (next some)

pub invariant_of-self-then-gone-gt0 : goal.invariant_of-self-then-gone-gt0
invariant_of-self-then-gone-gt0 c =
    let p = contents c.args.self.now.plan.now in
    let t = c.args.self.now.time in
    let later = c.saturating_add-time.result in
    let quiet = c.args.self.now.quiet in
    let still = c.args.self.now.still in
    record {
      starting = nobody_word (nobody_later p t later quiet still (omega arith) (omega arith));
      later = omega arith;
      still = still_later p t later quiet still (omega arith) (omega arith);
      next = next_later p t later quiet still (omega arith) (omega arith) c.args.self.now.next;
      one_plan = c.args.self.now.one_plan;
    }
