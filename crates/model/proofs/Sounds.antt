-- What calls leave is sound, and is one for each history.
use Rattle.std.proofs.Common.{◌≡◌, List, length, Ok, Err, sym, refl, ap, ◌∙◌, subst, subst₂, arith}
use Rattle.std.proofs.lemmas.List.{length_push, same_from_push}
use Rattle.plan.specs.Contents.{Contents, Sound}
use Rattle.plan.specs.Histories.{Call, registered, joined, reseated as seats}
use Rattle.plan.specs.Histories.{Makes as Changes}
use Rattle.plan.proofs.Answered.{one_answer_each}
use Rattle.plan.proofs.Keeping.{added_sound, join_sound, seat_sound}
use Rattle.plan.proofs.Tested.{may_take, may_join, may_seat, empty_sound}
use Rattle.model.specs.Histories.{Event, changes, checks, Makes, After, new, then}

-- ---- histories

change_sound : (k next : Contents) (call : Call) → Changes k call next → Sound k → Sound next
change_sound k next (registered h (Ok n)) m s = subst Sound (sym m.1.leaves) (added_sound k s h (may_take k next h n m.0 m.1))
change_sound k next (registered h (Err e)) m s = subst Sound (sym m.1.leaves) s
change_sound k next (joined a b (Ok u)) m s = subst Sound (sym m.leaves) (join_sound k s a b (may_join k next a b u m))
change_sound k next (joined a b (Err e)) m s = subst Sound (sym m.leaves) s
change_sound k next (seats n c (Ok u)) m s = subst Sound (sym m.leaves) (seat_sound k s n c (may_seat k next n c u m))
change_sound k next (seats n c (Err e)) m s = subst Sound (sym m.leaves) s

pub makes_sound : (k next : Contents) (event : Event) → Makes k event next → Sound k → Sound next
makes_sound k next (changes call) m s = change_sound k next call m s
makes_sound k next (checks D was r is) m s = subst Sound (sym m.2) s

-- every history leaves contents that are sound
pub after_sound : (events : List Event) (k : Contents) → After events k → Sound k
after_sound _ _ new = empty_sound
after_sound _ _ (then {events} {k} {next} event before made) = makes_sound k next event made (after_sound events k before)

change_one : (k next other : Contents) (call : Call) → Changes k call next → Changes k call other → other ≡ next
change_one k next other (registered h r) x y = (one_answer_each.register k h r r next other x.1 y.1).1
change_one k next other (joined a b r) x y = (one_answer_each.join k a b r r next other x y).1
change_one k next other (seats n c r) x y = (one_answer_each.reseat k n c r r next other x y).1

-- a call with its answer leaves one plan
pub makes_one : (k next other : Contents) (event : Event) → Makes k event next → Makes k event other → other ≡ next
makes_one k next other (changes call) x y = change_one k next other call x y
makes_one k next other (checks D was r is) x y = y.2 ∙ sym x.2

-- so do all the calls of a history: the last of them, after those before it
one_left : (events others : List Event) → others ≡ events → (k l : Contents) → After events k → After others l → l ≡ k
one_left _ _ e _ _ new new = refl
one_left _ _ e _ _ new (then {events = before} event a m) = absurd (omega (arith, ap length e, length_push before event))
one_left _ _ e _ _ (then {events = before} event a m) new = absurd (omega (arith, ap length e, length_push before event))
one_left _ _ e _ _ (then {events = before} {k} {next} event a m) (then {events = before'} {k = l} {next = other} event' a' m') =
    let q = same_from_push before' before event' event e in
    let held : l ≡ k = one_left before before' q.0 k l a a' in
    makes_one k next other event m (subst₂ (λ x y. Makes x y other) held q.1 m')

pub after_one : (events : List Event) (k l : Contents) → After events k → After events l → l ≡ k
after_one events k l = one_left events events refl k l
