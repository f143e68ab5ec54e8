-- What the account of a sample rests on.
use Rattle.std.specs.Prelude.{◌≡◌, ◌≤◌, List, [], length, take, Contains as Has, Ok, Result}
use Rattle.policy.specs.Codes.{coded}
use Rattle.plan.specs.declared.refusals.Refusal.{Refusal}
use Rattle.plan.specs.Contents.{contents}
use Rattle.model.specs.declared.verdicts.Verdict.{Verdict}
use Rattle.model.specs.declared.verdicts.Verdict.TheVariants.{Kept, Missed, RowsShort}
use Rattle.model.specs.declared.states.State.{State}
use Rattle.samples.specs.declared.Sample.{Sample}
use Rattle.samples.specs.Plans.{Known, plan_of}
use Rattle.model.specs.Checks.{Tables, KeptRows, most_rows}
use Rattle.account.specs.declared.checking.Checked.{Checked}

-- the tables have as many rows as the sample names, and no more than a check takes
pub record SizedFor (x : Sample) (t : Tables) : Type 0 where
  pub front : length t.front ≡ x.working
  pub back : length t.back ≡ x.working
  pub marks : length t.marks ≡ x.marks
  pub few : x.working ≤ most_rows
  pub low : x.marks ≤ most_rows

-- where the verdict is kept, the first of the rows, as many as it counts
abbrev pub counted : Verdict → List State → List State
counted (Kept k c) rows = take c rows
counted (Missed t n) rows = []
counted (RowsShort r t) rows = []

-- the verdict is the one known, and where that is kept, the first of the rows are the marks
pub record FindsKnown (x : Sample) (r : Result Verdict Refusal) (rows : List State) : Type 0 where
  pub verdict : r ≡ Ok x.verdict
  pub marks : KeptRows (plan_of x) (coded x.codes) x.verdict (counted x.verdict rows)

-- the plan is the sample's, the verdict is the one known, and what is shown as marks are the marks
pub record AsKnown (x : Sample) (c : Checked) : Type 0 where
  pub plan : contents c.plan ≡ plan_of x
  pub verdict : c.verdict ≡ x.verdict
  pub marks : KeptRows (plan_of x) (coded x.codes) x.verdict (counted c.verdict c.tables.marks.items)

-- each of them is as it says
abbrev pub AllKnown : List Sample → Type 0
AllKnown samples = (x : Sample) → Has samples x → Known x
