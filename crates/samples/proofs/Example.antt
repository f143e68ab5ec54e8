-- A history with every kind of answer.
use Rattle.std.proofs.Common.{◌≡◌, ◌⊎◌, List, [], ◌∷◌, ◌++◌, map, Ok, Err, sym, refl, subst, inl, inr, true≢false, arith}
use Rattle.std.proofs.lemmas.List.{append_assoc, append-nil}
use Rattle.policy.proofs.Lawful.{coded_lawful}
use Rattle.policy.specs.Laws.{IsLawfulChoice}
use Rattle.plan.specs.declared.refusals.Refusal.TheVariants.{NoPeriod, NoSuchHandler, Circle, UnfitTables}
use Rattle.plan.specs.Rows.{FitsWords}
use Rattle.plan.specs.Contents.{Contents, Sound, empty}
use Rattle.plan.specs.Calls.{added, Takes, Registers, with_join, ClosesCircle, Joins, Reseats}
use Rattle.plan.specs.Calls.{reseated as with_core}
use Rattle.plan.specs.Histories.{registered, joined, reseated}
use Rattle.model.specs.declared.verdicts.Rows.TheVariants.{Working, Marks}
use Rattle.model.specs.declared.verdicts.Verdict.TheVariants.{Kept, Missed, RowsShort}
use Rattle.samples.specs.Samples.{all_fixed}
use Rattle.samples.proofs.Sound.{chain_onward}
use Rattle.model.specs.Checks.{Tables, Checks}
use Rattle.model.specs.Histories.{Event, changes, checks, Makes, After, new, then, question, answer}
use Rattle.samples.specs.Example.{fixed, short, long, never, asks, answers}
use Rattle.samples.specs.Example.{SomeHistoryHasEachKind}
use Rattle.model.proofs.Answering.{tables, check_refused}
use Rattle.samples.proofs.Computing.{lent, found}
use Rattle.model.proofs.Sounds.{makes_sound}
use Rattle.plan.proofs.Tested.{neither, taken_registers, empty_sound}

-- ---- calls that lead on

-- made one after another, these calls lead from one plan to another
data Leads : Contents → List Event → Contents → Type 0 where
  end : {k : Contents} → Leads k [] k
  call : {k next last : Contents} {event : Event} {events : List Event} → Makes k event next → Leads next events last → Leads k (event ∷ events) last

led_after : (done events : List Event) (k last : Contents) → After done k → Leads k events last → After (done ++ events) last
led_after done _ k _ a end = subst (λ events. After events k) (sym (append-nil done)) a
led_after done _ k last a (call {next = next} {event = event} {events = events} made rest) =
    subst (λ events. After events last) (append_assoc done (event ∷ []) events) (led_after (done ++ event ∷ []) events next last (then event a made) rest)

-- ---- the plans of the example

-- one handler, the same on another core, and two of them, joined
abbrev single : Contents
single = added empty short

abbrev moved : Contents
moved = with_core single 1 2

abbrev pair : Contents
pair = added moved long

abbrev linked : Contents
linked = with_join pair 1 2

-- ---- registers, joins and reseats

fits_never : FitsWords never
fits_never = (omega arith, omega arith, omega arith, omega arith)

fits_short : FitsWords short
fits_short = (omega arith, omega arith, omega arith, omega arith)

fits_long : FitsWords long
fits_long = (omega arith, omega arith, omega arith, omega arith)

takes_short : Takes empty short
takes_short = record {
  room = omega arith;
  range = (omega arith, omega arith, omega arith, omega arith, omega arith, fits_short);
  short = omega arith;
}

takes_long : Takes moved long
takes_long = record {
  room = omega arith;
  range = (omega arith, omega arith, omega arith, omega arith, omega arith, fits_long);
  short = omega arith;
}

refuses_never : Registers empty never (Err NoPeriod) empty
refuses_never = record { answers = inr (λ l. omega (arith, l), inl (refl, refl)); leaves = refl }

both : {A B : Type 0} → A → B → (A → ⊥) ⊎ (B → ⊥) → ⊥
both a b (inl n) = n a
both a b (inr n) = n b

-- a handler before itself
refuses_circle : Joins single 1 1 (Err Circle) single
refuses_circle = record { answers = inr (both (omega arith, omega arith) (omega arith, omega arith), inr (both refl refl, inl (inl refl, refl))); leaves = refl }

joins_pair : Joins pair 1 2 (Ok tt) linked
joins_pair = record { answers = inr (both (omega arith, omega arith) (omega arith, omega arith), inr (both refl refl, inr (straight, refl))); leaves = refl }
  where
    straight : ClosesCircle pair 1 2 → ⊥
    straight (inl e) = omega (arith, e)
    straight (inr c) = omega (arith, chain_onward pair (λ a b j. absurd (true≢false (sym j))) c)

refuses_absent : Reseats single 2 2 (Err NoSuchHandler) single
refuses_absent = record { answers = inl (λ q. omega (arith, q.1), refl); leaves = refl }

reseats_short : Reseats single 1 2 (Ok tt) moved
reseats_short = record { answers = inr (λ n. n (omega arith, omega arith), inr (neither (λ e. omega (arith, e)) (λ l. omega (arith, l)), refl)); leaves = refl }

-- ---- checks

single_sound : Sound single
single_sound =
    makes_sound empty single (changes (registered short (Ok 1)))
    (fits_short, taken_registers empty short takes_short) empty_sound

linked_sound : Sound linked
linked_sound =
    makes_sound pair linked (changes (joined 1 2 (Ok tt))) joins_pair
    (makes_sound moved pair (changes (registered long (Ok 2)))
    (fits_long, taken_registers moved long takes_long)
    (makes_sound single moved (changes (reseated 1 2 (Ok tt))) reseats_short single_sound))

-- working tables of different lengths
abbrev uneven : Tables
uneven = tables 1 0 1

refused : Checks empty fixed uneven (Err UnfitTables) uneven
refused = check_refused empty empty_sound fixed uneven (inl (λ e. omega (arith, e)))

few_rows : (is : Tables) × Checks empty fixed (lent 0 1) (Ok (RowsShort Working 0)) is
few_rows = found empty empty_sound all_fixed 0 1 (omega arith) (omega arith) (RowsShort Working 0) refl

kept : (is : Tables) × Checks single fixed (lent 1 1) (Ok (Kept 1 1)) is
kept = found single single_sound all_fixed 1 1 (omega arith) (omega arith) (Kept 1 1) refl

few_marks : (is : Tables) × Checks single fixed (lent 1 0) (Ok (RowsShort Marks 0)) is
few_marks = found single single_sound all_fixed 1 0 (omega arith) (omega arith) (RowsShort Marks 0) refl

missed : (is : Tables) × Checks linked fixed (lent 3 1) (Ok (Missed 2 2)) is
missed = found linked linked_sound all_fixed 3 1 (omega arith) (omega arith) (Missed 2 2) refl

-- ---- the history

law : IsLawfulChoice fixed
law = coded_lawful all_fixed

events : List Event
events =
    checks fixed uneven (Err UnfitTables) uneven
    ∷ checks fixed (lent 0 1) (Ok (RowsShort Working 0)) few_rows.0
    ∷ changes (registered never (Err NoPeriod))
    ∷ changes (registered short (Ok 1))
    ∷ checks fixed (lent 1 1) (Ok (Kept 1 1)) kept.0
    ∷ checks fixed (lent 1 0) (Ok (RowsShort Marks 0)) few_marks.0
    ∷ changes (joined 1 1 (Err Circle))
    ∷ changes (reseated 2 2 (Err NoSuchHandler))
    ∷ changes (reseated 1 2 (Ok tt))
    ∷ changes (registered long (Ok 2))
    ∷ changes (joined 1 2 (Ok tt))
    ∷ checks fixed (lent 3 1) (Ok (Missed 2 2)) missed.0
    ∷ []

events_lead : Leads empty events linked
unfolding events
events_lead =
    call (law, refused, refl)
    (call (law, few_rows.1, refl)
    (call (fits_never, refuses_never)
    (call (fits_short, taken_registers empty short takes_short)
    (call (law, kept.1, refl)
    (call (law, few_marks.1, refl)
    (call refuses_circle
    (call refuses_absent
    (call reseats_short
    (call (fits_long, taken_registers moved long takes_long)
    (call joins_pair
    (call (law, missed.1, refl) end)))))))))))

asked : map question events ≡ asks
unfolding events
asked = refl

answered : map answer events ≡ answers
unfolding events
answered = refl

pub some_history_has_each_kind : SomeHistoryHasEachKind
some_history_has_each_kind = (record { events = events; left = linked; after = led_after [] events empty linked new events_lead }, asked, answered)
