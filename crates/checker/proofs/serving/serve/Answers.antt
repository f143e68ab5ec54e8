use Rattle.std.proofs.Common.{◌≡◌, ℕ, ◌∙◌, Some, None, Option, List, get_or, sym, subst, arith}
use Rattle.policy.specs.declared.cores.Core.{Core}
use Rattle.policy.specs.declared.candidates.Candidate.{Candidate}
use Rattle.policy.specs.Laws.{Choice}
use Rattle.plan.specs.Contents.{Contents, contents}
use Rattle.plan.proofs.Facts.{sound}
use Rattle.model.specs.Units.{State}
use Rattle.model.proofs.One.{one_runs}
use Rattle.model.proofs.Waiting.{someone_is_ready}
use Rattle.model.specs.Memory.{times}
use Rattle.checker.specs.Choosing.{Chosen, number_at}
use Rattle.checker.specs.Serving.{ServedTo}
use Rattle.checker.proofs.Losing.{served_none, served_idle, chosen_works, served_spent, served_all, rest_all}
use Rattle.checker.proofs.serving.serve.Goals as goal
use Rattle.checker.proofs.serving.serve.Goals.{in-Some, in_default}

-- who stands in the table for a core runs there
runs_there : (p : Contents) (D : Choice) (t : ℕ) (u : State) (firsts : List (Option Candidate)) → ((k : Core) → Chosen p D t u k (number_at firsts k))
    → (k : Core) (r : Option ℕ) → r ≡ number_at firsts k → Chosen p D t u k r
runs_there p D t u firsts all k r e = subst (Chosen p D t u k) (sym e) (all k)

pub loop-core-init : goal.loop-core-init
loop-core-init g c = served_none (contents c.args.plan.now) (g.D.Discipline.first c.args.d.now) (sound c.args.plan.now) c.args.t c.args.state.left

pub overflow_sub-served-in-Some : goal.overflow_sub-served-in-Some
overflow_sub-served-in-Some g c =
    chosen_works (contents c.args.plan.now) (g.D.Discipline.first c.args.d.now) (sound c.args.plan.now) c.args.t c.args.state.left (g.met.D.Discipline.lawful c.args.d.now)
    c.loop-core.core-index c.loop-core.served.0 c.loop-core.invariant c.all-core-items.result c.all-core-items.ensures c.core-item.result (omega arith) c.in-Some.number (runs_there (contents c.args.plan.now) (g.D.Discipline.first c.args.d.now) c.args.t (times (contents c.args.plan.now) c.args.state) c.firsts-first.result c.firsts-first.ensures (get_or c.all-core-items.result c.loop-core.core-index c.core-item.result) (Some c.in-Some.number) c.in-Some.ensures)

pub loop-core-preserved : goal.loop-core-preserved
loop-core-preserved g c =
    let p = contents c.args.plan.now in
    let D = g.D.Discipline.first c.args.d.now in
    let ok = sound c.args.plan.now in
    let law = g.met.D.Discipline.lawful c.args.d.now in
    let was = c.args.state.left in
    let m = c.loop-core.core-index in
    let now = c.loop-core.served.0 in
    let cores = c.all-core-items.result in
    let chosen = runs_there p D c.args.t (times p c.args.state) c.firsts-first.result c.firsts-first.ensures (get_or cores m c.core-item.result) in
    elim c.match-number_on.branch [
      | in-Some w ↦ rw w.served-is (served_spent p D ok c.args.t was law m now c.loop-core.invariant cores c.all-core-items.ensures c.core-item.result (omega arith) w.in-Some.number (chosen (Some w.in-Some.number) w.in-Some.ensures) c.args.state.whole)
      | in_default w ↦ rw w.served-is (served_idle p D ok c.args.t was law m now c.loop-core.invariant cores c.all-core-items.ensures c.core-item.result (omega arith) (chosen None w.in_default.ensures))
    ]

pub invariant_of-served : goal.invariant_of-served
invariant_of-served g c = record { whole = c.loop-core.invariant.long ∙ c.args.state.whole }

pub returns : goal.returns
returns g c =
    let p = contents c.args.plan.now in
    let D = g.D.Discipline.first c.args.d.now in
    let ok = sound c.args.plan.now in
    let s = c.args.state in
    let end : c.loop-core.core-index ≡ 8 = omega arith in
    let all : ServedTo p D c.args.t s.left 8 c.loop-core.served.0 = rw end at c.loop-core.invariant in
    record {
      served = served_all p D ok c.args.t s.left c.loop-core.served.0 s.whole all;
      rest = rest_all p D ok c.args.t s.left c.loop-core.served.0 s.whole all;
      one_runs = one_runs;
      someone_ready = someone_is_ready;
    }
