-- What a check promises under one choice, it promises under another that answers alike.
use Rattle.std.proofs.Common.{◌≡◌, ℕ, Result, subst}
use Rattle.policy.specs.declared.cores.Core.{Core}
use Rattle.policy.specs.declared.candidates.Candidate.{Candidate}
use Rattle.policy.specs.Laws.{Choice}
use Rattle.plan.specs.declared.refusals.Refusal.{Refusal}
use Rattle.plan.specs.Contents.{Contents}
use Rattle.model.specs.declared.verdicts.Verdict.{Verdict}
use Rattle.model.specs.Checks.{Tables, Checks}
use Rattle.model.proofs.Findings.{one_choice}

pub checks_alike : (k : Contents) (D E : Choice) (was is : Tables) (r : Result Verdict Refusal)
    → ((c : Core) (a b : Candidate) (t : ℕ) → D c a b t ≡ E c a b t) → Checks k D was r is → Checks k E was r is
checks_alike k D E was is r alike checks = subst (λ F. Checks k F was r is) (one_choice D E alike) checks
