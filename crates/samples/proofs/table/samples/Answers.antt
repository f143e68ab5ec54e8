use Rattle.samples.proofs.Verdicts.{samples_known, late_first_left}
use Rattle.literature.proofs.Same.{article_agrees, article_agrees_by_codes}
use Rattle.literature.proofs.Letter.{letter_differs}
use Rattle.samples.proofs.table.samples.Goals as goal

pub returns-clause-known : goal.returns-clause-known
returns-clause-known c = samples_known

pub returns-clause-left : goal.returns-clause-left
returns-clause-left c = late_first_left

pub returns-clause-article : goal.returns-clause-article
returns-clause-article c = article_agrees

pub returns-clause-article_codes : goal.returns-clause-article_codes
returns-clause-article_codes c = article_agrees_by_codes

pub returns-clause-letter : goal.returns-clause-letter
returns-clause-letter c = letter_differs
