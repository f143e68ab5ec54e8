-- What the type of a plan says of its contents, and that the contents tell the plan.
use Rattle.std.proofs.Common.{◌≡◌, ℕ, ◌<◌, ◌≤◌, false, List, [], length, get_or, take, sym, ap, ◌∙◌, subst, inl, inr, arith}
use denote.Struct.Record.{values_one}
use Rattle.std.proofs.lemmas.Bool.{cases_lt}
use Rattle.std.proofs.lemmas.List.{get_or_default, get_or-take, length-take-le, ext_get_or}
use Rattle.plan.specs.declared.handlers.Handler.{Handler}
use Rattle.plan.specs.declared.plans.Plan.{Plan}
use Rattle.plan.specs.contracts.handlers.Handler.{the_row}
use Rattle.plan.specs.contracts.plans.Plan.{struct, the_propositions}
use Rattle.plan.specs.Rows.{blank, AllInRange, Recurring, round_of, settling_of}
use Rattle.plan.specs.Joins.{joined_in}
use Rattle.plan.specs.Contents.{Contents, contents, at, Sound, ContentsTell}

-- handlers in range have a period
pub recurring : (n : ℕ) (hs : List Handler) → n ≤ length hs → AllInRange n hs → Recurring (take n hs)
recurring n hs le all h m =
    let lt : m.0 < n = omega (arith, m.1, length-take-le n hs le) in
    subst (λ x. 1 ≤ x.period) (sym (get_or-take n hs m.0 blank lt) ∙ get_or_default (take n hs) m.0 blank h m.1 ∙ m.2) (all m.0 lt).0

module _ (p : Plan) where
  pub rows_length : length (take p.count p.handlers) ≡ p.count
  rows_length = length-take-le p.count p.handlers (omega (arith, p.holds.few, p.holds.rows))

  pub at_is : (i : ℕ) → i < p.count → at (contents p) i ≡ get_or p.handlers i blank
  at_is i lt = get_or-take p.count p.handlers i blank lt

  pub sound : Sound (contents p)
  sound = record {
    few = omega (arith, rows_length, p.holds.few);
    ranges = λ i lt. (let l : i < p.count = omega (arith, lt, rows_length) in rw (at_is i l) (p.holds.ranges i l));
    short = rw (← p.holds.rounds) p.holds.short;
    inside = λ a b j. (omega (arith, rows_length, (p.holds.inside a b j).0), omega (arith, rows_length, (p.holds.inside a b j).1));
    periods = λ a b j. ap (λ (h : Handler). h.period) (at_is a (p.holds.inside a b j).0) ∙ p.holds.periods a b j ∙ ap (λ (h : Handler). h.period) (sym (at_is b (p.holds.inside a b j).1));
    offsets = λ a b j. ap (λ (h : Handler). h.offset) (at_is a (p.holds.inside a b j).0) ∙ p.holds.offsets a b j ∙ ap (λ (h : Handler). h.offset) (sym (at_is b (p.holds.inside a b j).1));
    no_circle = p.holds.straight;
  }

pub contents_tell : ContentsTell
contents_tell p q e =
    let hs : take p.count p.handlers ≡ take q.count q.handlers = ap (λ (k : Contents). k.handlers) e in
    let n : p.count ≡ q.count = sym (rows_length p) ∙ ap length hs ∙ rows_length q in
    let row : (i : ℕ) → i < length p.handlers → get_or p.handlers i blank ≡ get_or q.handlers i blank = λ i lt.
    elim (cases_lt i p.count) [
      | inl l ↦ sym (at_is p i l) ∙ ap (λ l. get_or l i blank) hs ∙ at_is q i (omega (arith, l, n))
      | inr g ↦ p.holds.blanks i g ∙ sym (q.holds.blanks i (omega (arith, g, n)))
    ] in
    let handlers : p.handlers ≡ q.handlers = ext_get_or blank p.handlers q.handlers (p.holds.rows ∙ sym q.holds.rows) row in
    let cell : (a b : ℕ) → joined_in p.joins a b ≡ joined_in q.joins a b = λ a b. ap (λ (k : Contents). k.joined a b) e in
    let line : (a : ℕ) → a < length p.joins → get_or p.joins a [] ≡ get_or q.joins a [] = λ a lt.
    let l : a < 64 = omega (arith, lt, p.holds.tall) in
    ext_get_or false (get_or p.joins a []) (get_or q.joins a []) (p.holds.wide a l ∙ sym (q.holds.wide a l)) (λ b _. cell a b) in
    let joins : p.joins ≡ q.joins = ext_get_or [] p.joins q.joins (p.holds.tall ∙ sym q.holds.tall) line in
    let round : p.round ≡ q.round = p.holds.rounds ∙ ap round_of hs ∙ sym q.holds.rounds in
    let settling : p.settling ≡ q.settling = p.holds.settles ∙ ap settling_of hs ∙ sym q.holds.settles in
    values_one struct (the_propositions the_row.coded) p q cc
