-- One test of the whole table, and what it says of each row.
use Rattle.std.proofs.Common.{◌≡◌, ℕ, Bool, true, ◌&&◌, sym, refl, ap, ap₂, true≢false}
use Rattle.std.specs.Prelude.{Some, Option, ◌==◌}
use Rattle.std.specs.List.{list_all}
use Rattle.std.proofs.lemmas.Bool.{eqb-true, and_parts}
use Rattle.policy.proofs.Lawful.{coded_lawful}
use Rattle.policy.specs.Codes.{coded}
use Rattle.plan.specs.Contents.{empty}
use Rattle.model.specs.declared.verdicts.Rows.TheVariants.{Working, Marks}
use Rattle.model.specs.declared.verdicts.Verdict.{Verdict}
use Rattle.model.specs.declared.verdicts.Verdict.TheVariants.{Kept, Missed, RowsShort}
use Rattle.model.specs.Units.{State, left}
use Rattle.model.specs.Runs.{StateAt}
use Rattle.model.specs.Verdicts.{VerdictIs}
use Rattle.model.proofs.Unique.{verdict_one}
use Rattle.samples.specs.declared.Sample.{Sample}
use Rattle.samples.specs.Plans.{plan_of, Known}
use Rattle.samples.specs.Samples.{row, all_fixed, late_first, samples, SamplesKnown, LateFirstLeft}
use Rattle.samples.proofs.Evaluate.{asked, states, verdict_by, answers}
use Rattle.samples.proofs.Sound.{can_be, can_be_sound}
use Rattle.samples.proofs.Taking.{takes_all, all_taken}
use Rattle.samples.proofs.Outcomes.{at_states, computed_verdict}
use Rattle.samples.proofs.Deciding.{eq_decides, true_decides, all_decides}
use Rattle.samples.proofs.Unit.{asked_answers}

pub answers_is : (o : Option Verdict) (v : Verdict) → answers o v ≡ true → o ≡ Some v
answers_is (Some (Kept k c)) (Kept l d) e = let r = and_parts (k == l) (c == d) e in ap Some (ap₂ Kept (eqb-true k l r.0) (eqb-true c d r.1))
answers_is (Some (Missed t n)) (Missed s m) e = let r = and_parts (t == s) (n == m) e in ap Some (ap₂ Missed (eqb-true t s r.0) (eqb-true n m r.1))
answers_is (Some (RowsShort Working t)) (RowsShort Working s) e = ap (λ x. Some (RowsShort Working x)) (eqb-true t s e)
answers_is (Some (RowsShort Marks t)) (RowsShort Marks s) e = ap (λ x. Some (RowsShort Marks x)) (eqb-true t s e)
answers_is o v e = absurd (true≢false (sym e))

-- the calls are all taken and make a plan, and the first verdict within twenty units is the one named
abbrev pub is_right : Sample → Bool
is_right x = takes_all empty x.calls && (can_be x && answers (verdict_by (plan_of x) (asked (plan_of x) x.codes) x.working x.marks 20 0) x.verdict)

pub right_known : (x : Sample) → is_right x ≡ true → Known x
right_known x e =
    let a = and_parts (takes_all empty x.calls) _ e in
    let r = and_parts (can_be x) _ a.1 in
    let ok = can_be_sound x r.0 in
    let verdict : VerdictIs (plan_of x) (coded x.codes) x.working x.marks x.verdict =
    computed_verdict (plan_of x) (coded x.codes) ok (asked (plan_of x) x.codes) (asked_answers (plan_of x) x.codes ok) x.working x.marks 20 x.verdict
    (answers_is (verdict_by (plan_of x) (asked (plan_of x) x.codes) x.working x.marks 20 0) x.verdict r.1) in
    record {
      taken = all_taken x.calls a.0;
      sound = ok;
      lawful = coded_lawful x.codes;
      verdict = verdict;
      only = λ v g. verdict_one (plan_of x) (coded x.codes) x.working x.marks ok v x.verdict g verdict;
    }

-- computed
pub all_right : list_all is_right samples ≡ true
all_right = refl

pub samples_known : SamplesKnown
samples_known x h = right_known x ((all_decides is_right (λ x. is_right x ≡ true) (λ x. true_decides (is_right x)) samples).0 all_right x h)

-- ---- the times left

-- the sample with the handler that is released late
abbrev late : Sample
late = row late_first all_fixed 128 128 (Kept 1 1)

-- the place has so much left in every state at the time
abbrev leaves : ℕ → ℕ → ℕ → Bool
leaves t i n = list_all (λ s. left s i == n) (states (plan_of late) (asked (plan_of late) late.codes) t)

leaves_so : (t i n : ℕ) → leaves t i n ≡ true → (s : State) → StateAt (plan_of late) (coded late.codes) t s → left s i ≡ n
leaves_so t i n e s a =
    let ok = can_be_sound late refl in
    (all_decides (λ s. left s i == n) (λ s. left s i ≡ n) (λ s. eq_decides (left s i) n) (states (plan_of late) (asked (plan_of late) late.codes) t)).0 e s
    ((at_states (plan_of late) (coded late.codes) ok (asked (plan_of late) late.codes) (asked_answers (plan_of late) late.codes ok) t s).0 a)

pub late_first_left : LateFirstLeft
late_first_left run r = (leaves_so 2 3 1 refl (run 2) (run, r, refl), leaves_so 6 3 0 refl (run 6) (run, r, refl))
