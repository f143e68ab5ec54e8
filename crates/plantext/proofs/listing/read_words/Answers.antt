use Rattle.std.proofs.Common.{◌≡◌, subst, rules}
use Rattle.std.specs.Str.Iter.{split_whitespace_rest, split_whitespace_steps}
use Rattle.plantext.specs.Lines.{texts}
use Rattle.plantext.specs.Taking.{SplitsInto}
use Rattle.plantext.proofs.Cutting.{all_words}
use Rattle.plantext.proofs.listing.read_words.Goals as goal

pub returns : goal.returns
returns c =
    let ended = subst (λ o. split_whitespace_steps c.loop-word.word-iterator o c.next.new.self) c.in-None.is c.next.ensures.steps in
    let all = all_words c.loop-word.yielded c.into_iter-word-iterator.result c.loop-word.word-iterator c.next.new.self c.loop-word.yielded_by ended in
    let whole : split_whitespace_rest c.into_iter-word-iterator.result ≡ c.args.text.now = search rules in
    (texts c.loop-word.yielded, subst (λ t. SplitsInto t (texts c.loop-word.yielded)) whole all, c.loop-word.invariant)
