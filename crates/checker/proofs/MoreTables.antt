-- What a check of some of the rows says of the tables that they are of.
use Rattle.std.proofs.Common.{◌≡◌, ℕ, ◌≤◌, List, length, take, drop, ◌++◌, Ok, sym, ap, ◌∙◌, take-append-drop, length-append, arith}
use Rattle.std.proofs.lemmas.List.{length-take-le, take_at, drop_at}
use Rattle.policy.specs.Laws.{Choice}
use Rattle.plan.specs.Contents.{Contents}
use Rattle.model.specs.declared.verdicts.Verdict.{Verdict}
use Rattle.model.specs.declared.states.State.{State}
use Rattle.model.specs.Checks.{Tables, most_rows, Checks, SameSizes, MarksAfter, LeavesMarks}
use Rattle.model.proofs.Findings.{judged as verdict_of}
use Rattle.checker.proofs.Tables.{judged}
use Rattle.checker.proofs.MoreRows.{Final, verdict_more}

-- the first rows are written, and as many as before
pub as_many : (n : ℕ) (was part : List State) → length part ≡ length (take n was)
    → length (part ++ drop n was) ≡ length was
as_many n was part e =
    let whole = ap length (take-append-drop n was) in
    omega (arith, e, length-append part (drop n was), length-append (take n was) (drop n was), whole)

-- marks that stand in other rows are copied to the front of these
pub copied : (p : Contents) (D : Choice) (k c : ℕ) (before found was part : List State)
    → LeavesMarks p D k c before found → part ≡ take c found → c ≤ length was
    → LeavesMarks p D k c was (part ++ drop c was)
copied p D k c before found was part x e few =
    let many : length part ≡ c = ap length e ∙ length-take-le c found x.fits in
    record {
      fits = omega (arith, few, as_many c was part (many ∙ sym (length-take-le c was few)));
      marks = rw (take_at part (drop c was) c many ∙ e) x.marks;
      rest = drop_at part (drop c was) c many;
    }

module _ (p : Contents) (D : Choice) (x : Tables) (same : length x.front ≡ length x.back)
    (few : length x.front ≤ most_rows) (low : length x.marks ≤ most_rows) where
  -- the working tables hold other states by then, and as many
  pub again : (mid is : Tables) (v : Verdict) → length mid.front ≡ length x.front
      → length mid.back ≡ length x.back → mid.marks ≡ x.marks
      → Checks p D mid (Ok v) is → Checks p D x (Ok v) is
  again mid is v front back marks c = record {
    answers = judged p D x v same few low (rw (← front, ← marks) (verdict_of p D mid is v c));
    sizes = record {
      front = c.sizes.front ∙ front;
      back = c.sizes.back ∙ back;
      marks = c.sizes.marks ∙ ap length marks;
    };
    leaves = rw (← marks) c.leaves;
  }

  -- a verdict on some of the rows, where none are short
  pub from_some : (part part_is is : Tables) (v : Verdict) → length part.front ≤ length x.front
      → length part.marks ≤ length x.marks → Checks p D part (Ok v) part_is → Final v
      → SameSizes x is → MarksAfter p D v x.marks is.marks → Checks p D x (Ok v) is
  from_some part part_is is v rows marks c final sizes leaves =
      let more = verdict_more p D _ _ (length x.front) (length x.marks) rows marks v final in
      record {
        answers = judged p D x v same few low (more (verdict_of p D part part_is v c));
        sizes = sizes;
        leaves = leaves;
      }
