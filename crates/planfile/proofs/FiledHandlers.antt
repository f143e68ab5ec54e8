-- The records of the handlers are read.
use Rattle.std.proofs.Common.{◌≡◌, ℕ, ◌≤◌, false, List, [], ◌∷◌, ◌++◌, length, refl, sym, ap, ◌∙◌, subst, arith}
use Rattle.std.specs.List.{flat_map, Contains as Has}
use Rattle.std.proofs.lemmas.List.{append_assoc, append-nil, length-append, get_or_default}
use Rattle.std.proofs.lemmas.List.Elements.{Contains-append_left, Contains-append_right}
use Rattle.gather.proofs.Counting.{has_here}
use Rattle.plan.specs.declared.handlers.Handler.{Handler}
use Rattle.plan.specs.Rows.{blank, IsInRange, Recurring, round_of, longest_round}
use Rattle.plan.specs.Contents.{Contents, Sound}
use Rattle.plan.specs.Calls.{added, Takes}
use Rattle.plan.proofs.Rounds.{round_least}
use Rattle.planfile.specs.Files.{handler_record, handler_records}
use Rattle.planfile.specs.Tests.{Standing}
use Rattle.planfile.proofs.FiledRecords.{onward}
use Rattle.planfile.proofs.FiledSteps.{Left, handler_read}

-- these handlers, and no join
abbrev pub alone : List Handler → Contents
alone hs = record { handlers = hs; joined = λ a b. false }

-- only handlers have come
pub record Fresh (s : Standing) : Type 0 where
  pub kind : s.kind ≤ 1
  pub first : s.first ≡ 0
  pub second : s.second ≡ 0
  pub cores : s.cores ≡ 0

-- so it is when only handlers have come, the plan holds these contents, and this is left
pub record Handled (bytes : List ℕ) (l : Contents) (left : List ℕ) : Type 0 where
  pub stands : Standing
  pub fresh : Fresh stands
  pub now : Left bytes stands l [] left

module _ (k : Contents) (sound : Sound k) where
  in_range : (h : Handler) → Has k.handlers h → IsInRange h
  in_range h m = subst IsInRange (get_or_default k.handlers m.0 blank h m.1 ∙ m.2) (sound.ranges m.0 m.1)

  recurring : Recurring k.handlers
  recurring h m = (in_range h m).0

  -- fewer handlers have no longer round
  shorter : (some : List Handler) → ((h : Handler) → Has some h → Has k.handlers h) → round_of some ≤ longest_round
  shorter some among =
      let whole = round_least k.handlers recurring in
      let part = round_least some (λ h m. recurring h (among h m)) in
      omega (arith, part.least (round_of k.handlers) whole.some (λ h m. whole.common h (among h m)), sound.short)

  takes : (done todo : List Handler) (h : Handler) → k.handlers ≡ done ++ h ∷ todo → Takes (alone done) h
  takes done todo h e =
      let longer : k.handlers ≡ (done ++ h ∷ []) ++ todo = e ∙ sym (append_assoc done (h ∷ []) todo) in
      record {
        room = omega (arith, sound.few, ap length e, length-append done (h ∷ todo));
        range = in_range h (subst (λ l. Has l h) (sym e) (Contains-append_right done (h ∷ todo) h (has_here h todo)));
        short = shorter (done ++ h ∷ []) (λ x m. subst (λ l. Has l x) (sym longer) (Contains-append_left (done ++ h ∷ []) todo x m));
      }

  -- whatever takes such handlers, each from its own text, takes all of them
  module _ (text_of : Handler → List ℕ) (Come : Contents → List ℕ → Type 0)
      (take : (l : Contents) (h : Handler) (rest : List ℕ) → Has k.handlers h → Takes l h → Come l (text_of h ++ rest) → Come (added l h) rest) where
    pub handlers_come : (todo done : List Handler) (rest : List ℕ) → k.handlers ≡ done ++ todo → Come (alone done) (flat_map text_of todo ++ rest)
        → Come (alone k.handlers) rest
    handlers_come [] done rest e come = subst (λ hs. Come (alone hs) rest) (sym (e ∙ append-nil done)) come
    handlers_come (h ∷ todo) done rest e come =
        let others = flat_map text_of todo in
        handlers_come todo (done ++ h ∷ []) rest (e ∙ sym (append_assoc done (h ∷ []) todo))
        (take (alone done) h (others ++ rest) (subst (λ l. Has l h) (sym e) (Contains-append_right done (h ∷ todo) h (has_here h todo))) (takes done todo h e)
        (subst (Come (alone done)) (append_assoc (text_of h) others rest) come))

  pub handlers_read : (bytes rest : List ℕ) → Handled bytes (alone []) (handler_records k ++ rest) → Handled bytes (alone k.handlers) rest
  handlers_read bytes rest h = handlers_come handler_record (Handled bytes) take k.handlers [] rest refl h
    where
      take : (l : Contents) (h : Handler) (rest : List ℕ) → Has k.handlers h → Takes l h → Handled bytes l (handler_record h ++ rest)
          → Handled bytes (added l h) rest
      take l h rest among takes p = record {
        stands = onward bytes p.stands 9 1 p.stands.first p.stands.second p.stands.cores;
        fresh = record { kind = omega arith; first = p.fresh.first; second = p.fresh.second; cores = p.fresh.cores };
        now = handler_read bytes p.stands l [] rest h p.now p.fresh.kind takes;
      }
