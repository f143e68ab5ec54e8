-- Each call leaves what the type of a plan asks for.
use Rattle.std.proofs.Common.{◌≡◌, ℕ, suc, ◌+◌, ◌-◌, ◌<◌, ◌≤◌, max, Bool, true, false, List, [], length, get_or, take, set, replicate, sym, refl, ap, ◌∙◌, subst, arith}
use mathlib.Core.Path.{fun_ext}
use Rattle.std.proofs.lemmas.List.{length-set}
use Rattle.plan.specs.declared.handlers.Handler.{Handler}
use Rattle.plan.specs.Invariant.{IsPlan}
use Rattle.plan.specs.declared.plans.Plan.{Plan}
use Rattle.plan.specs.Rows.{blank, AllInRange, BlankFrom, round_of, settling_of, longest_round, LeastRound, GreatestOffset}
use Rattle.plan.specs.Joins.{joined_in, linked, Inside, OnePeriod, OneOffset, NoCircle, Wide}
use Rattle.plan.specs.Contents.{Contents, contents, at, round, empty}
use Rattle.plan.specs.Calls.{added, Takes, with_join, MayJoin, seated, reseated, MaySeat}
use Rattle.plan.proofs.Blanks.{blank_row, none_joined, not_joined, no_chain, all_wide}
use Rattle.plan.proofs.Chains.{not_back}
use Rattle.plan.proofs.Changes.{grow_ranges, grow_blanks, grow_round, grow_settling, grow_inside, grow_periods, grow_offsets, set_ranges, set_blanks, seat_field, seat_rows, seat_round, seat_settling, link_number, link_wide, link_inside, link_periods, link_offsets, link_straight}
use Rattle.plan.proofs.Facts.{recurring, rows_length, at_is}
use Rattle.plan.proofs.Rounds.{round_least, settling_greatest}

-- what the type of a plan asks of its fields; what it says more of the round and of the settling time follows
record Held (count round settling : ℕ) (handlers : List Handler) (joins : List (List Bool)) : Type 0 where
  few : count ≤ 64
  ranges : AllInRange count handlers
  blanks : BlankFrom count handlers
  rounds : round ≡ round_of (take count handlers)
  short : round ≤ longest_round
  settles : settling ≡ settling_of (take count handlers)
  inside : Inside count joins
  periods : OnePeriod handlers joins
  offsets : OneOffset handlers joins
  straight : NoCircle (joined_in joins)
  rows : length handlers ≡ 64
  tall : length joins ≡ 64
  wide : Wide joins

facts_from : (count round settling : ℕ) (handlers : List Handler) (joins : List (List Bool)) → Held count round settling handlers joins → IsPlan count round settling handlers joins
facts_from count round settling handlers joins h =
    let rows = take count handlers in
    let fits : count ≤ length handlers = omega (arith, h.few, h.rows) in
    let r : LeastRound rows round = subst (LeastRound rows) (sym h.rounds) (round_least rows (recurring count handlers fits h.ranges)) in
    let g : GreatestOffset rows settling = subst (GreatestOffset rows) (sym h.settles) (settling_greatest rows) in
    record {
      few = h.few;
      ranges = h.ranges;
      blanks = h.blanks;
      rounds = h.rounds;
      short = h.short;
      settles = h.settles;
      inside = h.inside;
      periods = h.periods;
      offsets = h.offsets;
      straight = h.straight;
      rows = h.rows;
      tall = h.tall;
      wide = h.wide;
      some = r.some;
      common = r.common;
      least = r.least;
      divides = r.divides;
      above = g.above;
      tight = g.tight;
    }

abbrev pub with_rows : (ℕ → ℕ → Bool) → List Handler → Contents
with_rows f hs = record { handlers = hs; joined = f }

abbrev pub with_joined : List Handler → (ℕ → ℕ → Bool) → Contents
with_joined hs f = record { handlers = hs; joined = f }

-- ---- a new plan

pub new_facts : IsPlan 0 1 0 (replicate 64 blank) (replicate 64 (replicate 64 false))
new_facts =
    facts_from 0 1 0 (replicate 64 blank) (replicate 64 (replicate 64 false))
    (record {
      few = omega arith;
      ranges = λ i l. absurd (omega arith);
      blanks = λ i l. blank_row 64 i blank;
      rounds = refl;
      short = omega arith;
      settles = refl;
      inside = λ a b j. not_joined a b j;
      periods = λ a b j. not_joined a b j;
      offsets = λ a b j. not_joined a b j;
      straight = λ a p. no_chain p;
      rows = refl;
      tall = refl;
      wide = all_wide;
    })

pub new_contents : with_joined [] (joined_in (replicate 64 (replicate 64 false))) ≡ empty
new_contents = ap (with_joined []) (fun_ext (λ a. fun_ext (λ b. none_joined a b)))

-- ---- register

module _ (p : Plan) (h : Handler) (t : Takes (contents p) h) where
  fits : p.count < length p.handlers
  fits = omega (arith, t.room, rows_length p, p.holds.rows)

  pub register_facts : (m s : ℕ) → m ≡ round (added (contents p) h) → s ≡ max p.settling h.offset → IsPlan (p.count + 1) m s (set p.handlers p.count h) p.joins
  register_facts m s e f =
      let short : m ≤ longest_round = omega (arith, e, t.short) in
      facts_from (p.count + 1) m s (set p.handlers p.count h) p.joins
      (record {
        few = omega (arith, fits, p.holds.rows);
        ranges = grow_ranges p.count p.handlers h fits p.holds.ranges t.range;
        blanks = grow_blanks p.count p.handlers h fits p.holds.blanks;
        rounds = grow_round p.count p.handlers h fits m e;
        short = short;
        settles = f ∙ grow_settling p.count p.handlers h fits p.settling p.holds.settles;
        inside = grow_inside p.count p.handlers h fits p.joins p.holds.inside;
        periods = grow_periods p.count p.handlers h fits p.joins p.holds.inside p.holds.periods;
        offsets = grow_offsets p.count p.handlers h fits p.joins p.holds.inside p.holds.offsets;
        straight = p.holds.straight;
        rows = length-set p.handlers p.count h ∙ p.holds.rows;
        tall = p.holds.tall;
        wide = p.holds.wide;
      })

-- ---- join

module _ (p : Plan) (a b : ℕ) (m : MayJoin (contents p) a b) where
  ip : a - 1 < p.count
  ip = omega (arith, m.known_a.0, m.known_a.1, rows_length p)

  jp : b - 1 < p.count
  jp = omega (arith, m.known_b.0, m.known_b.1, rows_length p)

  il : a - 1 < 64
  il = omega (arith, ip, p.holds.few)

  jl : b - 1 < 64
  jl = omega (arith, jp, p.holds.few)

  field : (f : Handler → ℕ) → f (at (contents p) (a - 1)) ≡ f (at (contents p) (b - 1)) → f (get_or p.handlers (a - 1) blank) ≡ f (get_or p.handlers (b - 1) blank)
  field f e = ap f (sym (at_is p (a - 1) ip)) ∙ e ∙ ap f (at_is p (b - 1) jp)

  pub join_facts : IsPlan p.count p.round p.settling p.handlers (linked p.joins (a - 1) (b - 1))
  join_facts =
      facts_from p.count p.round p.settling p.handlers (linked p.joins (a - 1) (b - 1))
      (record {
        few = p.holds.few;
        ranges = p.holds.ranges;
        blanks = p.holds.blanks;
        rounds = p.holds.rounds;
        short = p.holds.short;
        settles = p.holds.settles;
        inside = link_inside p.joins (a - 1) (b - 1) p.holds.tall p.holds.wide il jl p.count ip jp p.holds.inside;
        periods = link_periods p.joins (a - 1) (b - 1) p.holds.tall p.holds.wide il jl p.handlers (field (λ h. h.period) m.periods) p.holds.periods;
        offsets = link_offsets p.joins (a - 1) (b - 1) p.holds.tall p.holds.wide il jl p.handlers (field (λ h. h.offset) m.offsets) p.holds.offsets;
        straight = link_straight p.joins (a - 1) (b - 1) p.holds.tall p.holds.wide il jl p.holds.straight (not_back (contents p) a b m);
        rows = p.holds.rows;
        tall = length-set p.joins (a - 1) (set (get_or p.joins (a - 1) []) (b - 1) true) ∙ p.holds.tall;
        wide = link_wide p.joins (a - 1) (b - 1) p.holds.tall p.holds.wide il jl;
      })

  pub join_contents : with_joined (contents p).handlers (joined_in (linked p.joins (a - 1) (b - 1))) ≡ with_join (contents p) a b
  join_contents =
      let ai : a ≡ suc (a - 1) = omega (arith, m.known_a.0) in
      let bj : b ≡ suc (b - 1) = omega (arith, m.known_b.0) in
      ap (with_joined (contents p).handlers) (fun_ext (λ x. fun_ext (λ y. link_number p.joins (a - 1) (b - 1) p.holds.tall p.holds.wide il jl a b ai bj x y)))

-- ---- reseat

module _ (p : Plan) (n c : ℕ) (m : MaySeat (contents p) n c) where
  np : n - 1 < p.count
  np = omega (arith, m.known.0, m.known.1, rows_length p)

  within : n - 1 < length p.handlers
  within = omega (arith, np, p.holds.few, p.holds.rows)

  pub seat_facts : IsPlan p.count p.round p.settling (set p.handlers (n - 1) (seated (get_or p.handlers (n - 1) blank) c)) p.joins
  seat_facts =
      let i = n - 1 in
      let h = seated (get_or p.handlers i blank) c in
      let g = p.holds.ranges i np in
      let same = seat_field p.handlers i h within in
      facts_from p.count p.round p.settling (set p.handlers i h) p.joins
      (record {
        few = p.holds.few;
        ranges = set_ranges p.handlers i h within p.count (λ a lt ne. p.holds.ranges a lt) (g.0, g.1, g.2, m.low, m.high, g.5);
        blanks = set_blanks p.handlers i h within p.count np p.holds.blanks;
        rounds = p.holds.rounds ∙ sym (seat_round p.handlers i h within p.count np refl);
        short = p.holds.short;
        settles = p.holds.settles ∙ sym (seat_settling p.handlers i h within p.count np refl);
        inside = p.holds.inside;
        periods = λ a b j. same (λ x. x.period) refl a ∙ p.holds.periods a b j ∙ sym (same (λ x. x.period) refl b);
        offsets = λ a b j. same (λ x. x.offset) refl a ∙ p.holds.offsets a b j ∙ sym (same (λ x. x.offset) refl b);
        straight = p.holds.straight;
        rows = length-set p.handlers i h ∙ p.holds.rows;
        tall = p.holds.tall;
        wide = p.holds.wide;
      })

  pub seat_contents : with_rows (joined_in p.joins) (take p.count (set p.handlers (n - 1) (seated (get_or p.handlers (n - 1) blank) c))) ≡ reseated (contents p) n c
  seat_contents =
      let k = contents p in
      let i = n - 1 in
      ap (with_rows k.joined)
      (seat_rows p.handlers i (seated (get_or p.handlers i blank) c) within p.count np ∙ ap (λ h. set k.handlers i (seated h c)) (sym (at_is p i np)))
