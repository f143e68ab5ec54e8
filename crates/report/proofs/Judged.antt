-- The verdict of a check with so many rows, under a choice that answers as the codes do.
use Rattle.std.proofs.Common.{◌≡◌, ℕ, length, Ok, Result, subst}
use Rattle.policy.specs.declared.cores.Core.{Core}
use Rattle.policy.specs.declared.candidates.Candidate.{Candidate}
use Rattle.policy.specs.Laws.{Choice}
use Rattle.plan.specs.declared.refusals.Refusal.{Refusal}
use Rattle.plan.specs.Contents.{Contents}
use Rattle.model.specs.declared.verdicts.Verdict.{Verdict}
use Rattle.model.specs.Verdicts.{VerdictIs}
use Rattle.model.specs.Checks.{Tables, Checks}
use Rattle.model.proofs.Findings.{one_choice, judged}
use Rattle.report.specs.Said.{rows}

pub verdict_is : (k : Contents) (D E : Choice) (was is : Tables) (r : Result Verdict Refusal) (v : Verdict)
    → Checks k D was r is → length was.front ≡ rows → length was.marks ≡ rows → ((c : Core) (a b : Candidate) (t : ℕ) → D c a b t ≡ E c a b t) → r ≡ Ok v
    → VerdictIs k E rows rows v
verdict_is k D E was is r v checks front marks alike ok =
    let found = judged k D was is v (subst (λ q. Checks k D was q is) ok checks) in
    let sized = subst (λ m. VerdictIs k D rows m v) marks (subst (λ n. VerdictIs k D n (length was.marks) v) front found) in
    subst (λ F. VerdictIs k F rows rows v) (one_choice D E alike) sized
