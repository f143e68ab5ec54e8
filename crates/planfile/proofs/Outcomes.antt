-- Every file is read in one way: two readings of the same bytes that can go no further are one.
use Rattle.std.proofs.Common.{◌≡◌, ℕ, suc, ◌<◌, ◌≤◌, List, Some, None, Option, Ok, Err, is_ok, sym, refl, ap, ◌∙◌, subst, inl, inr, true≢false, arith}
use Rattle.std.proofs.lemmas.Bool.{cases_eq, cases_lt}
use Rattle.plan.specs.Contents.{Contents}
use Rattle.planfile.specs.declared.faults.Cause.{Cause}
use Rattle.planfile.specs.declared.faults.Fault.{Fault}
use Rattle.planfile.specs.declared.records.Record.{Record}
use Rattle.planfile.specs.Tests.{Standing, past, NextIs, Enters}
use Rattle.planfile.specs.Reads.{Reached, none, one_more, IsFile, IsRefused}
use Rattle.planfile.specs.Theorems.{EveryFileIsReadOnce}
use Rattle.planfile.proofs.FiledRecords.{before_end, at_end}
use Rattle.planfile.proofs.FiledEntries.{next_one, ok_one, err_one, enters_one}

-- ---- many records

module _ (bytes : List ℕ) where
  -- one record more is read and entered
  record Goes (s : Standing) (k : Contents) (codes : List ℕ) : Type 0 where
    entry : Record
    is : NextIs bytes s (Ok (Some entry))
    next : Contents
    more : List ℕ
    enters : Enters k codes entry (Ok tt) next more

  -- how many records are read
  abbrev depth : {s : Standing} {k : Contents} {codes : List ℕ} → Reached bytes s k codes → ℕ
  depth none = 0
  depth (one_more r before is enters) = suc (depth before)

  abbrev Same : Standing → Contents → List ℕ → Standing → Contents → List ℕ → Type 0
  Same s k codes s' k' codes' = (s' ≡ s) × (k' ≡ k) × (codes' ≡ codes)

  -- one record more of the same
  step_same : (s s' : Standing) (k k' next next' : Contents) (codes codes' more more' : List ℕ) (r r' : Record) → Same s k codes s' k' codes'
      → NextIs bytes s (Ok (Some r)) → NextIs bytes s' (Ok (Some r')) → Enters k codes r (Ok tt) next more → Enters k' codes' r' (Ok tt) next' more'
      → Same (past bytes s) next more (past bytes s') next' more'
  step_same s s' k k' next next' codes codes' more more' r r' same is is' enters enters' =
      let entry : r' ≡ r = ok_one r r' (next_one bytes s (Ok (Some r)) (Ok (Some r')) is (subst (λ t. NextIs bytes t (Ok (Some r'))) same.0 is')) in
      let moved : Enters k codes r (Ok tt) next' more' =
      subst (λ e. Enters k codes e (Ok tt) next' more') entry
      (subst (λ c. Enters k c r' (Ok tt) next' more') same.2 (subst (λ l. Enters l codes' r' (Ok tt) next' more') same.1 enters')) in
      let one = enters_one k codes (Ok tt) (Ok tt) next next' more more' r enters moved in
      (ap (past bytes) same.0, one.1, one.2)

  -- equally many records leave the same
  depth_same : {s s' : Standing} {k k' : Contents} {codes codes' : List ℕ} (x : Reached bytes s k codes) (y : Reached bytes s' k' codes') → depth y ≡ depth x
      → Same s k codes s' k' codes'
  depth_same none none e = (refl, refl, refl)
  depth_same none (one_more r before is enters) e = absurd (omega (arith, e))
  depth_same (one_more r before is enters) none e = absurd (omega (arith, e))
  depth_same (one_more {s} {k} {next} {codes} {more} r x is enters) (one_more {s = s'} {k = k'} {next = next'} {codes = codes'} {more = more'} r' y is' enters') e =
      step_same s s' k k' next next' codes codes' more more' r r' (depth_same x y (omega (arith, e))) is is' enters enters'

  -- the point after some of the records that are read
  record Between (n : ℕ) : Type 0 where
    stands : Standing
    contents : Contents
    codes : List ℕ
    reached : Reached bytes stands contents codes
    deep : depth reached ≡ n
    goes : Goes stands contents codes

  between : {s : Standing} {k : Contents} {codes : List ℕ} (n : ℕ) (x : Reached bytes s k codes) → n < depth x → Between n
  between n none l = absurd (omega (arith, l))
  between n (one_more {s} {k} {next} {codes} {more} r x is enters) l =
      elim (cases_eq (depth x) n) [
        | inl e ↦
            record {
              stands = s;
              contents = k;
              codes = codes;
              reached = x;
              deep = e;
              goes = record { entry = r; is = is; next = next; more = more; enters = enters };
            }
        | inr ne ↦ between n x (omega (arith, l, ne))
      ]

  module _ {s s' : Standing} {k k' : Contents} {codes codes' : List ℕ} (x : Reached bytes s k codes) (y : Reached bytes s' k' codes') where
    -- a reading that can go no further is not the shorter one
    not_shorter : ¬ Goes s k codes → depth y ≤ depth x
    not_shorter stops =
        elim (cases_lt (depth x) (depth y)) [
          | inr g ↦ g
          | inl l ↦
              (let b = between (depth x) y l in
              let same = depth_same x b.reached b.deep in
              absurd (stops (subst (λ t. Goes t k codes) same.0 (subst (λ l. Goes b.stands l codes) same.1 (subst (λ c. Goes b.stands b.contents c) same.2 b.goes)))))
        ]

  stops_same : {s s' : Standing} {k k' : Contents} {codes codes' : List ℕ} → Reached bytes s k codes → Reached bytes s' k' codes'
      → ¬ Goes s k codes → ¬ Goes s' k' codes' → Same s k codes s' k' codes'
  stops_same x y a b = depth_same x y (omega (arith, not_shorter x y a, not_shorter y x b))

-- ---- files

module _ (bytes : List ℕ) (s : Standing) (k : Contents) (codes : List ℕ) where
  -- where no record comes next, none does
  none_stops : NextIs bytes s (Ok None) → ¬ Goes bytes s k codes
  none_stops ended g = (before_end bytes s g.entry g.is).0 (at_end bytes s ended).0

  -- the fault of bytes that are read as far as here
  data FaultAt (f : Fault) : Type 0 where
    no_next : NextIs bytes s (Err f) → FaultAt f
    no_entry : (entry : Record) (cause : Cause) → NextIs bytes s (Ok (Some entry)) → Enters k codes entry (Err cause) k codes
        → f ≡ record { cause = cause; place = s.place } → FaultAt f

  -- a fault is no answer
  not_both : (f : Fault) (o : Option Record) → NextIs bytes s (Err f) → ¬ NextIs bytes s (Ok o)
  not_both f o next next' = absurd (true≢false (ap is_ok (next_one bytes s (Err f) (Ok o) next next')))

  fault_stops : (f : Fault) → FaultAt f → ¬ Goes bytes s k codes
  fault_stops f (no_next next) g = not_both f (Some g.entry) next g.is
  fault_stops f (no_entry entry cause next enters e) g =
      let same = ok_one entry g.entry (next_one bytes s (Ok (Some entry)) (Ok (Some g.entry)) next g.is) in
      let r = (enters_one k codes (Err cause) (Ok tt) k g.next codes g.more entry enters (subst (λ x. Enters k codes x (Ok tt) g.next g.more) same g.enters)).0 in
      absurd (true≢false (ap is_ok r))

  fault_one : (f g : Fault) → FaultAt f → FaultAt g → g ≡ f
  fault_one f g (no_next next) (no_next next') = err_one f g (next_one bytes s (Err f) (Err g) next next')
  fault_one f g (no_next next) (no_entry entry' cause' next' enters' e') = absurd (not_both f (Some entry') next next')
  fault_one f g (no_entry entry cause next enters e) (no_next next') = absurd (not_both g (Some entry) next' next)
  fault_one f g (no_entry entry cause next enters e) (no_entry entry' cause' next' enters' e') =
      let same = ok_one entry entry' (next_one bytes s (Ok (Some entry)) (Ok (Some entry')) next next') in
      let r = (enters_one k codes (Err cause) (Err cause') k k codes codes entry enters (subst (λ x. Enters k codes x (Err cause') k codes) same enters')).0 in
      e' ∙ ap (λ c. record { cause = c; place = s.place }) (err_one cause cause' r) ∙ sym e

  not_file : (f : Fault) → NextIs bytes s (Ok None) → ¬ FaultAt f
  not_file f ended (no_next next) = not_both f None next ended
  not_file f ended (no_entry entry cause next enters e) = (before_end bytes s entry next).0 (at_end bytes s ended).0

module _ (bytes : List ℕ) where
  record Refused (f : Fault) : Type 0 where
    stands : Standing
    contents : Contents
    codes : List ℕ
    reached : Reached bytes stands contents codes
    fault : FaultAt bytes stands contents codes f

  refused : (f : Fault) → IsRefused bytes f → Refused f
  refused f (inl x) = record { stands = x.stands; contents = x.contents; codes = x.codes; reached = x.reached; fault = no_next x.next }
  refused f (inr x) =
      record { stands = x.stands; contents = x.contents; codes = x.codes; reached = x.reached; fault = no_entry x.entry x.cause x.next x.enters x.fault }

  one_file : (k l : Contents) (codes others : List ℕ) → IsFile bytes k codes → IsFile bytes l others → (l ≡ k) × (others ≡ codes)
  one_file k l codes others x y =
      let same = stops_same bytes x.reached y.reached (none_stops bytes x.stands k codes x.ended) (none_stops bytes y.stands l others y.ended) in
      (same.1, same.2)

  -- a refusal at a point where another reading stops
  refused_at : {s : Standing} {k : Contents} {codes : List ℕ} (f : Fault) → Reached bytes s k codes → ¬ Goes bytes s k codes → Refused f → FaultAt bytes s k codes f
  refused_at {s} {k} {codes} f x stops y =
      let same = stops_same bytes x y.reached stops (fault_stops bytes y.stands y.contents y.codes f y.fault) in
      subst (λ t. FaultAt bytes t k codes f) same.0
      (subst (λ l. FaultAt bytes y.stands l codes f) same.1 (subst (λ c. FaultAt bytes y.stands y.contents c f) same.2 y.fault))

  one_refusal : (f g : Fault) → Refused f → Refused g → g ≡ f
  one_refusal f g x y =
      fault_one bytes x.stands x.contents x.codes f g x.fault
      (refused_at g x.reached (fault_stops bytes x.stands x.contents x.codes f x.fault) y)

pub every_file_is_read_once : EveryFileIsReadOnce
every_file_is_read_once bytes = record {
  one_plan = one_file bytes;
  one_fault = λ f g x y. one_refusal bytes f g (refused bytes f x) (refused bytes g y);
  not_both = λ k codes f x y. not_file bytes x.stands k codes f x.ended (refused_at bytes f x.reached (none_stops bytes x.stands k codes x.ended) (refused bytes f y));
}
