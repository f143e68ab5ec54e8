use Rattle.std.proofs.Common.{◌≡◌, ℕ, take, ap, ◌∙◌, rules, arith}
use Rattle.std.specs.Str.Lines.{lines}
use Rattle.std.proofs.lemmas.List.{length-replicate}
use Rattle.plan.specs.Contents.{contents}
use Rattle.plan.proofs.Facts.{sound}
use Rattle.planfile.specs.Files.{file_of}
use Rattle.plantext.proofs.Files.{front_is_file, never_refused, are_codes}
use Rattle.plantext.proofs.Back.{printed_file, printed_lists}
use Rattle.plantext.proofs.texts.to_file.Goals as goal

pub unreachable-requires : goal.unreachable-requires
unreachable-requires c =
    never_refused _ _ _ _ _ (sound c.in_ok-list.list.plan) (are_codes c.in_ok-list.list.codes c.numbers.result c.numbers.ensures (search rules))
    (first_of (omega (arith, length-replicate {A = ℕ}), search rules)) c.in_default.ensures.writes

pub returns-clause-file : goal.returns-clause-file
returns-clause-file c =
    let items : c.from-file.result.items ≡ c.write.new.buffer = search rules in
    record {
      list = c.in_ok-list.list;
      lists = c.in_ok-list.ensures.reads;
      file =
          c.truncate.ensures.items ∙ ap (take c.in-Ok.length) items ∙ front_is_file _ _ _ _ _ c.in-Ok.ensures.writes
          ∙ ap (file_of (contents c.in_ok-list.list.plan)) c.numbers.ensures;
    }

pub returns-clause-printed : goal.returns-clause-printed
returns-clause-printed c = λ k codes is. printed_file c.args.text.now k codes is _ (returns-clause-file c)

pub returns-in_err-list-clause-printed : goal.returns-in_err-list-clause-printed
returns-in_err-list-clause-printed c = λ k codes is.
    let good = printed_lists c.args.text.now k codes is in
    absurd (c.read.ensures.taken (lines c.args.text.now) good.0 good.1 _ c.in_err-list.ensures.reads)
