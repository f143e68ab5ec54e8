use Rattle.std.proofs.Common.{◌≡◌, take, ap, ◌∙◌, subst, rules}
use Rattle.std.proofs.lemmas.Result.{err_from_is_err_and}
use Rattle.plantext.specs.Lines.{texts, Says}
use Rattle.plantext.specs.Problems.{WrongWith, words_read}
use Rattle.plantext.specs.Taking.{SplitsInto}
use Rattle.plantext.proofs.Said.{said_text}
use Rattle.plantext.proofs.listing.Listing.add_line.Goals as goal

pub returns-in_err-line-clause-took : goal.returns-in_err-line-clause-took
returns-in_err-line-clause-took c =
    let p = err_from_is_err_and c.from_residual.result c.from_residual.ensures.1 in
    let cut = c.read_words.ensures in
    let problem = c.in_err-line.field-0.0 in
    let items : c.deref.result.now ≡ c.read_words.new.words.items = search rules in
    let front : texts c.deref.result.now ≡ take words_read cut.0 = ap texts items ∙ cut.2 in
    let wrong = c.parse_words.ensures.first_words.wrong cut.0 problem (subst (λ ws. WrongWith ws problem) front c.in_err-line.ensures.parses) in
    rw (p.1, p.2)
    (record {
      words = cut.0;
      cut = subst (λ t. SplitsInto t cut.0) c.before_comment.ensures cut.1;
      unsaid = c.parse_words.ensures.tell.unsaid cut.0 problem wrong;
      wrong = wrong;
    })

pub returns-clause-took : goal.returns-clause-took
returns-clause-took c =
    let cut = c.read_words.ensures in
    let line = c.in_ok-line.line in
    let items : c.deref.result.now ≡ c.read_words.new.words.items = search rules in
    let front : texts c.deref.result.now ≡ take words_read cut.0 = ap texts items ∙ cut.2 in
    let says = c.parse_words.ensures.first_words.says cut.0 line (subst (λ ws. Says ws line) front c.in_ok-line.ensures.parses) in
    said_text c.args.text.now c.args.self.now c.take.new.self line cut.0 (subst (λ t. SplitsInto t cut.0) c.before_comment.ensures cut.1) says
    c.take.result c.take.ensures.took
