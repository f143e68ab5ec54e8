-- What is printed of a verdict.
use Rattle.std.specs.Prelude.{ℕ}
use Rattle.model.specs.declared.verdicts.Rows.TheVariants.{Working as WorkingRows, Marks as MarkRows}
use Rattle.model.specs.declared.verdicts.Verdict.{Verdict}
use Rattle.model.specs.declared.verdicts.Verdict.TheVariants.{Kept as IsKept, Missed as IsMissed, RowsShort}
use Rattle.report.specs.declared.words.Word.TheVariants.{Kept, Missed, Working, Marks}
use Rattle.report.specs.declared.words.Answer.{Answer}

-- a verdict as a word and two numbers, for tables of so many rows
abbrev pub said : ℕ → Verdict → Answer
said rows (IsKept k c) = record { word = Kept; first = k; second = c }
said rows (IsMissed t n) = record { word = Missed; first = t; second = n }
said rows (RowsShort WorkingRows t) = record { word = Working; first = t; second = rows }
said rows (RowsShort MarkRows t) = record { word = Marks; first = t; second = rows }
