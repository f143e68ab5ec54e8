-- The handlers of a plan are those that a mixture of calls registered, in their order, each with its last core.
use Rattle.std.proofs.Common.{◌≡◌, ℕ, ◌+◌, ◌-◌, ◌<◌, ◌≢◌, ◌⊎◌, List, [], ◌∷◌, ◌++◌, map, length, get_or, set, Ok, Err, sym, refl, ap, ◌∙◌, inl, inr, arith}
use Rattle.std.proofs.lemmas.Bool.{cases_eq}
use Rattle.std.proofs.lemmas.List.{append_assoc, append-nil, length_push, length-map, length-set, map_push, get_or_push, get_or_append_left, get_or-set_same, get_or-set_other}
use Rattle.std.proofs.Math.Seq.{map-set_same}
use Rattle.plan.specs.declared.handlers.Handler.{Handler}
use Rattle.plan.specs.Rows.{blank}
use Rattle.plan.specs.Contents.{Contents, count, at, Known}
use Rattle.plan.specs.Calls.{seated, Registers, Reseats}
use Rattle.plan.specs.Histories.{registered, joined, reseated}
use Rattle.model.specs.Histories.{Event, changes, checks, Makes, After, new, then, registers, taken, but_core, Seats, LastCore}
use Rattle.plan.proofs.Tested.{passed, may_seat}
use Rattle.model.proofs.LastCores.{seats_last, stays_last}

-- an accepted register answers one more than there were
pub register_number : (k next : Contents) (h : Handler) (n : ℕ) → Registers k h (Ok n) next → n ≡ count k + 1
register_number k next h n m = let e = (passed (passed (passed (passed (passed m.answers).1).1).1).1).1 in cc

taken_push : (events : List Event) (event : Event) → taken (events ++ event ∷ []) ≡ taken events ++ registers event
taken_push [] event = append-nil (registers event)
taken_push (e ∷ events) event = ap (λ hs. registers e ++ hs) (taken_push events event) ∙ sym (append_assoc (registers e) (taken events) (registers event))

-- the plan has those taken, each on its last core
pub record Held (events : List Event) (k : Contents) : Type 0 where
  pub rows : map but_core k.handlers ≡ map but_core (taken events)
  pub cores : (i : ℕ) → i < count k → LastCore events (i + 1) (at k i).core

module _ (events : List Event) (k next : Contents) (held : Held events k) where
  -- a call that registers nobody leaves the rows, if it changes no more than cores
  same_rows : (event : Event) → registers event ≡ [] → map but_core next.handlers ≡ map but_core k.handlers → map but_core next.handlers ≡ map but_core (taken (events ++ event ∷ []))
  same_rows event nobody same = same ∙ held.rows ∙ ap (map but_core) (sym (taken_push events event ∙ ap (λ hs. taken events ++ hs) nobody ∙ append-nil (taken events)))

  -- a call that registers and seats nobody, and leaves the handlers
  rests : (event : Event) → registers event ≡ [] → ((n d : ℕ) → ¬ Seats event n d) → next.handlers ≡ k.handlers → Held (events ++ event ∷ []) next
  rests event nobody unseated same = record {
    rows = same_rows event nobody (ap (map but_core) same);
    cores = λ i l. rw same (stays_last events event (i + 1) (at k i).core (unseated (i + 1)) (held.cores i (rw same at l)));
  }

  held_register : (h : Handler) (n : ℕ) → Registers k h (Ok n) next → Held (events ++ changes (registered h (Ok n)) ∷ []) next
  held_register h n m = record {
    rows = ap (map but_core) grown ∙ map_push but_core k.handlers h ∙ ap (λ hs. hs ++ but_core h ∷ []) held.rows
        ∙ sym (map_push but_core (taken events) h) ∙ ap (map but_core) (sym (taken_push events (changes (registered h (Ok n)))));
    cores = λ i l. core i l (cases_eq i (count k));
  }
    where
      number : n ≡ count k + 1
      number = register_number k next h n m

      grown : next.handlers ≡ k.handlers ++ h ∷ []
      grown = ap (λ (x : Contents). x.handlers) m.leaves

      core : (i : ℕ) → i < count next → (i ≡ count k) ⊎ (i ≢ count k) → LastCore (events ++ changes (registered h (Ok n)) ∷ []) (i + 1) (at next i).core
      core i l (inl e) =
          let here : at next i ≡ h = ap (λ hs. get_or hs i blank) grown ∙ get_or_push k.handlers h blank i (sym e) in
          seats_last events (changes (registered h (Ok n))) (i + 1) (at next i).core (omega (arith, number), ap (λ (x : Handler). x.core) (sym here))
      core i l (inr ne) =
          let low : i < count k = omega (arith, ap length grown, length_push k.handlers h) in
          let there : at next i ≡ at k i = ap (λ hs. get_or hs i blank) grown ∙ get_or_append_left k.handlers (h ∷ []) blank i low in
          rw there (stays_last events (changes (registered h (Ok n))) (i + 1) (at k i).core (λ d s. omega (arith, s.0, number)) (held.cores i low))

  held_seat : (n c : ℕ) → Reseats k n c (Ok tt) next → Held (events ++ changes (reseated n c (Ok tt)) ∷ []) next
  held_seat n c m = record {
    rows = same_rows (changes (reseated n c (Ok tt))) refl (ap (map but_core) set_one ∙ map-set_same but_core k.handlers (n - 1) (seated (at k (n - 1)) c) blank refl);
    cores = λ i l. core i l (cases_eq i (n - 1));
  }
    where
      known : Known k n
      known = (may_seat k next n c tt m).known

      set_one : next.handlers ≡ set k.handlers (n - 1) (seated (at k (n - 1)) c)
      set_one = ap (λ (x : Contents). x.handlers) m.leaves

      core : (i : ℕ) → i < count next → (i ≡ n - 1) ⊎ (i ≢ n - 1) → LastCore (events ++ changes (reseated n c (Ok tt)) ∷ []) (i + 1) (at next i).core
      core i l (inl e) =
          let row = seated (at k (n - 1)) c in
          let placed : at next (n - 1) ≡ row = ap (λ hs. get_or hs (n - 1) blank) set_one ∙ get_or-set_same k.handlers (n - 1) row blank (omega (arith, known.0, known.1)) in
          let here : at next i ≡ row = ap (at next) e ∙ placed in
          seats_last events (changes (reseated n c (Ok tt))) (i + 1) (at next i).core (omega (arith, known.0), ap (λ (x : Handler). x.core) (sym here))
      core i l (inr ne) =
          let row = seated (at k (n - 1)) c in
          let low : i < count k = omega (arith, ap length set_one, length-set k.handlers (n - 1) row) in
          let there : at next i ≡ at k i = ap (λ hs. get_or hs i blank) set_one ∙ get_or-set_other k.handlers (n - 1) i row blank ne in
          rw there (stays_last events (changes (reseated n c (Ok tt))) (i + 1) (at k i).core (λ d s. omega (arith, s.0, known.0)) (held.cores i low))

  held_made : (event : Event) → Makes k event next → Held (events ++ event ∷ []) next
  held_made (changes (registered h (Ok n))) m = held_register h n m.1
  held_made (changes (registered h (Err e))) m = rests (changes (registered h (Err e))) refl (λ n d s. s) (ap (λ (x : Contents). x.handlers) m.1.leaves)
  held_made (changes (joined a b (Ok u))) m = rests (changes (joined a b (Ok u))) refl (λ n d s. s) (ap (λ (x : Contents). x.handlers) m.leaves)
  held_made (changes (joined a b (Err e))) m = rests (changes (joined a b (Err e))) refl (λ n d s. s) (ap (λ (x : Contents). x.handlers) m.leaves)
  held_made (changes (reseated n c (Ok u))) m = held_seat n c m
  held_made (changes (reseated n c (Err e))) m = rests (changes (reseated n c (Err e))) refl (λ n d s. s) (ap (λ (x : Contents). x.handlers) m.leaves)
  held_made (checks D was r is) m = rests (checks D was r is) refl (λ n d s. s) (ap (λ (x : Contents). x.handlers) m.2)

pub handlers_held : (events : List Event) (k : Contents) → After events k → Held events k
handlers_held _ _ new = record { rows = refl; cores = λ i l. absurd (omega (arith, l)) }
handlers_held _ _ (then {events} {k} {next} event before made) = held_made events k next (handlers_held events k before) event made

-- as many as were taken
pub taken_count : (events : List Event) (k : Contents) → After events k → length (taken events) ≡ count k
taken_count events k after = sym (length-map (taken events) but_core) ∙ ap length (sym (handlers_held events k after).rows) ∙ length-map k.handlers but_core
