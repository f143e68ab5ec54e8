-- What the plan of a sample holds, and what a sample claims.
use Rattle.std.specs.Prelude.{◌≡◌, ◌⊎◌, List, [], ◌∷◌, fold, Some, None, Option, Err}
use Rattle.plan.specs.declared.refusals.Refusal.{Refusal}
use Rattle.policy.specs.Laws.{IsLawfulChoice}
use Rattle.policy.specs.Codes.{coded}
use Rattle.plan.specs.Contents.{Contents, Sound, empty}
use Rattle.plan.specs.Calls.{added, Takes, Registers, with_join, MayJoin, Joins}
use Rattle.model.specs.declared.verdicts.Verdict.{Verdict}
use Rattle.model.specs.Verdicts.{VerdictIs}
use Rattle.samples.specs.declared.Call.{Call}
use Rattle.samples.specs.declared.Call.TheVariants.{Register, Join}
use Rattle.samples.specs.declared.Sample.{Sample}

-- what the plan holds after the call, if there is one
abbrev pub called : Contents → Option Call → Contents
called k None = k
called k (Some (Register h)) = added k h
called k (Some (Join a b)) = with_join k a b

-- what the plan holds after all calls, made in turn on a new plan
abbrev pub plan_of : Sample → Contents
plan_of x = fold called empty x.calls

-- the plan takes the call, if there is one
abbrev pub Taken : Contents → Option Call → Type 0
Taken k None = Unit {0}
Taken k (Some (Register h)) = Takes k h
Taken k (Some (Join a b)) = MayJoin k a b

-- it takes all of them, in turn
abbrev pub AllTaken : Contents → List (Option Call) → Type 0
AllTaken k [] = Unit {0}
AllTaken k (c ∷ calls) = Taken k c × AllTaken (called k c) calls

-- the plan refuses the call for this
abbrev pub Refuses : Contents → Option Call → Refusal → Type 0
Refuses k None e = ⊥
Refuses k (Some (Register h)) e = Registers k h (Err e) k
Refuses k (Some (Join a b)) e = Joins k a b (Err e) k

-- the first call that is refused is refused for this
abbrev pub FirstRefused : Contents → List (Option Call) → Refusal → Type 0
FirstRefused k [] e = ⊥
FirstRefused k (c ∷ calls) e = Refuses k c e ⊎ (Taken k c × FirstRefused (called k c) calls e)

-- no call is refused, and a plan can hold what the calls make; the codes make a lawful discipline; for these rows the verdict is the model's, and there is no other
pub record Known (x : Sample) : Type 0 where
  pub taken : AllTaken empty x.calls
  pub sound : Sound (plan_of x)
  pub lawful : IsLawfulChoice (coded x.codes)
  pub verdict : VerdictIs (plan_of x) (coded x.codes) x.working x.marks x.verdict
  pub only : (v : Verdict) → VerdictIs (plan_of x) (coded x.codes) x.working x.marks v → v ≡ x.verdict
