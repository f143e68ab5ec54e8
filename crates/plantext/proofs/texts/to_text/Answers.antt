use Rattle.std.proofs.Common.{MatchResult, sym, subst, arith}
use Rattle.std.proofs.lemmas.Result.{err_from_is_err_and}
use Rattle.plan.specs.Contents.{contents}
use Rattle.planfile.specs.Reads.{IsRefused}
use Rattle.plantext.specs.Turned.{IsTextOf}
use Rattle.plantext.proofs.Back.{text_of_file_fits, comes_back, text_of_every, fault_of_every}
use Rattle.plantext.proofs.ListedWhole.{text_is_read_back}
use Rattle.plantext.proofs.texts.to_text.Goals as goal

pub printed-requires : goal.printed-requires
printed-requires c = text_of_file_fits c.args.bytes.now (λ i. omega (arith, c.type_inv.bytes i)) (contents c.read.new.plan) c.read.new.codes c.in_ok-read.ensures.reads

pub returns-in_err-read-clause-read_back : goal.returns-in_err-read-clause-read_back
returns-in_err-read-clause-read_back c = text_is_read_back

pub returns-in_err-read-clause-whole : goal.returns-in_err-read-clause-whole
returns-in_err-read-clause-whole c = λ n input enough read.
    let fault = c.in_err-read.field-0.0 in
    let told = err_from_is_err_and c.from_residual.result c.from_residual.ensures.1 in
    let refused = fault_of_every c.args.bytes.now (λ i. omega (arith, c.type_inv.bytes i)) c.read.ensures.first_bytes fault c.in_err-read.ensures.reads.0 n input enough read in
    subst (λ r. MatchResult r (λ text. IsTextOf input text.bytes) (λ unread. IsRefused input unread.0)) (sym told.1)
    (subst (λ f. IsRefused input f) (sym told.2) refused)

pub returns-clause-read_back : goal.returns-clause-read_back
returns-clause-read_back c = text_is_read_back

pub returns-clause-comes_back : goal.returns-clause-comes_back
returns-clause-comes_back c =
    comes_back c.args.bytes.now (λ i. omega (arith, c.type_inv.bytes i)) (contents c.read.new.plan) c.read.new.codes c.in_ok-read.ensures.reads
    c.printed.result.bytes c.printed.ensures

pub returns-clause-whole : goal.returns-clause-whole
returns-clause-whole c =
    text_of_every c.args.bytes.now (λ i. omega (arith, c.type_inv.bytes i)) c.read.ensures.first_bytes c.printed.result.bytes
    (record { contents = contents c.read.new.plan; codes = c.read.new.codes; file = c.in_ok-read.ensures.reads; is = c.printed.ensures })
