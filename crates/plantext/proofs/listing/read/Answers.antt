use Rattle.std.proofs.Common.{◌≡◌, [], ◌∷◌, sym, refl, ap, subst, rules}
use Rattle.std.proofs.lemmas.List.{map-append}
use Rattle.std.proofs.lemmas.Iterator.Splits.{YieldsList-from_lines}
use Rattle.std.proofs.lemmas.Iterator.Consumers.{YieldsList-from_enumerate, YieldsList-so_far, YieldsList-turn, YieldsList-end}
use Rattle.std.specs.Str.Lines.{lines}
use Rattle.gather.proofs.Ending.{faulted}
use Rattle.plantext.specs.Theorems.{OneListing}
use Rattle.plantext.proofs.OneListing.{one_listing}
use Rattle.plantext.proofs.Refusing.{good_lines_are_taken}
use Rattle.plantext.proofs.OneRefusal.{one_refusal}
use Rattle.std.proofs.lemmas.Result.{err_from_is_err_and}
use Rattle.plantext.specs.Taking.{begun, then, Lists, TookText, line_number}
use Rattle.plantext.proofs.Cutting.{lines_of, lines_are, turn_is}
use Rattle.plantext.proofs.listing.read.Goals as goal

pub loop-at-init : goal.loop-at-init
loop-at-init c = begun c.new-list.ensures

pub loop-at-preserved : goal.loop-at-preserved
loop-at-preserved c =
    let took : TookText c.in-Some.line.now c.loop-at.list c.add_line.new.self = search rules in
    subst (λ ls. Lists ls c.add_line.new.self) (sym (map-append (λ x. x.1.now) c.loop-at.yielded ((c.in-Some.at, c.in-Some.line) ∷ [])))
    (then c.in-Some.line.now c.loop-at.invariant took)

pub returns-clause-reads : goal.returns-clause-reads
returns-clause-reads c =
    let numbered = YieldsList-from_enumerate (YieldsList-from_lines c.args.text.now cc) cc in
    let all = YieldsList-end numbered c.loop-at.yielded _ c.loop-at.yielded_by _ _ c.in-None.is c.next.ensures.steps in
    subst (λ ls. Lists ls c.loop-at.list) (lines_are c.loop-at.yielded (lines c.args.text.now) all.0) c.loop-at.invariant

one : OneListing
one ls l m x y = one_listing x y refl

pub returns-clause-one : goal.returns-clause-one
returns-clause-one c = one

pub returns-clause-taken : goal.returns-clause-taken
returns-clause-taken c = good_lines_are_taken

pub returns-clause-one_refusal : goal.returns-clause-one_refusal
returns-clause-one_refusal c = one_refusal

pub returns-in_err-map_err-clause-one_refusal : goal.returns-in_err-map_err-clause-one_refusal
returns-in_err-map_err-clause-one_refusal c = one_refusal

pub returns-in_err-map_err-clause-one : goal.returns-in_err-map_err-clause-one
returns-in_err-map_err-clause-one c = one

pub returns-in_err-map_err-clause-taken : goal.returns-in_err-map_err-clause-taken
returns-in_err-map_err-clause-taken c = good_lines_are_taken

pub returns-in_err-map_err-clause-reads : goal.returns-in_err-map_err-clause-reads
returns-in_err-map_err-clause-reads c =
    let p = err_from_is_err_and c.from_residual.result c.from_residual.ensures.1 in
    let f = faulted _ _ _ c.in_err-map_err.ensures.variant c.in_err-map_err.ensures.cases c.add_line.ensures.took in
    let is : c.in_err-map_err.field-0.0 ≡ record { line = line_number c.in-Some.at; trouble = f.0 } = search rules in
    let numbered = YieldsList-from_enumerate (YieldsList-from_lines c.args.text.now cc) cc in
    let so_far = YieldsList-so_far numbered c.loop-at.yielded _ c.loop-at.yielded_by in
    let here = YieldsList-turn numbered c.loop-at.yielded _ c.loop-at.yielded_by _ _ (c.in-Some.at, c.in-Some.line) c.in-Some.is c.next.ensures.steps in
    let turn = turn_is c.loop-at.yielded (lines c.args.text.now) c.in-Some.at c.in-Some.line.now so_far here in
    rw (p.1, p.2, is)
    (record {
      before = lines_of c.loop-at.yielded;
      line = c.in-Some.line.now;
      after = turn.after;
      split = turn.split;
      number = ap line_number turn.number;
      was = c.loop-at.list;
      lists = c.loop-at.invariant;
      refused = f.2;
    })
