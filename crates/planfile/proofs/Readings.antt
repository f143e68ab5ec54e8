-- Where a reader has come by the records of a file: how many cores there were, and what the next record does.
use Rattle.std.proofs.Common.{◌≡◌, ℕ, ◌<◌, ◌≤◌, MatchResult, List, [], length, Some, Ok, Err, Result, inr, refl, arith, rules, length-append}
use Rattle.std.proofs.lemmas.Bool.Decides.{nat_tests}
use Rattle.plan.specs.Contents.{Contents, empty}
use Rattle.planfile.specs.declared.faults.Cause.{Cause}
use Rattle.planfile.specs.declared.faults.Fault.{Fault}
use Rattle.planfile.specs.declared.records.Record.{Record}
use Rattle.planfile.specs.declared.records.Record.TheVariants.{Handler as HandlerRecord, Join as JoinRecord, Core as CoreRecord, End}
use Rattle.planfile.specs.Tests.{Standing, outset, past, record_here, Unknown, KindMisplaced, NextIs, Enters}
use Rattle.planfile.specs.Reads.{IsFile, IsRefused, Reached, none, one_more}
use Rattle.planfile.proofs.FiledRecords.{before_end, at_end}

-- what of the tests that the record passes is needed here
record Passes (bytes : List ℕ) (s : Standing) (r : Record) : Type 0 where
  pub known : ¬ Unknown bytes s
  pub placed : ¬ KindMisplaced bytes s
  pub is : r ≡ record_here bytes s

passes : (bytes : List ℕ) (s : Standing) (r : Record) → NextIs bytes s (Ok (Some r)) → Passes bytes s r
passes bytes s r next = let h = (before_end bytes s r next).1 in search rules

-- there is a code for each core so far, and at the end for all eight
record Counts (s : Standing) (codes : List ℕ) : Type 0 where
  pub counted : length codes ≡ s.cores
  pub few : s.cores ≤ 8
  pub all : s.kind ≡ 4 → 8 ≤ s.cores

one_further : (bytes : List ℕ) (s : Standing) (k next : Contents) (codes more : List ℕ) (r : Record) → Passes bytes s r → Enters k codes r (Ok tt) next more → Counts s codes → Counts (past bytes s) more
one_further bytes s k next codes more (HandlerRecord h) p (q, made, e, same) c = record { counted = grind (arith, nat_tests); few = grind (arith, nat_tests); all = grind (arith, nat_tests) }
one_further bytes s k next codes more (JoinRecord a b) p (q, made, e, same) c = record { counted = grind (arith, nat_tests); few = grind (arith, nat_tests); all = grind (arith, nat_tests) }
one_further bytes s k next codes more (CoreRecord core code) p (e, same) c = record { counted = grind (arith, nat_tests, length-append); few = grind (arith, nat_tests); all = grind (arith, nat_tests) }
one_further bytes s k next codes more End p (e, same, kept) c = record { counted = grind (arith, nat_tests); few = grind (arith, nat_tests); all = grind (arith, nat_tests) }

counts : (bytes : List ℕ) (s : Standing) (k : Contents) (codes : List ℕ) → Reached bytes s k codes → Counts s codes
counts bytes _ _ _ none = record { counted = refl; few = omega arith; all = λ e. omega (arith, e) }
counts bytes _ _ _ (one_more {s} {k} {next} {codes} {more} r reached found entered) =
    one_further bytes s k next codes more r (passes bytes s r found) entered (counts bytes s k codes reached)

-- a file has eight codes
pub eight : (bytes : List ℕ) (k : Contents) (codes : List ℕ) → IsFile bytes k codes → length codes ≡ 8
eight bytes k codes file =
    let c = counts bytes file.stands k codes file.reached in
    omega (arith, c.counted, c.few, c.all (at_end bytes file.stands file.ended).0)

-- ---- from record to record

pub begun : (bytes : List ℕ) (s : Standing) (k : Contents) (codes : List ℕ) → s ≡ outset → k ≡ empty → codes ≡ [] → Reached bytes s k codes
begun bytes s k codes at_outset is_empty no_code = rw (at_outset, is_empty, no_code) none

-- a record that is not entered changes nothing
unentered : (k next : Contents) (codes more : List ℕ) (r : Record) (why : Cause) → Enters k codes r (Err why) next more → Enters k codes r (Err why) k codes
unentered k next codes more (HandlerRecord h) why (Ok n, made, e, same) = absurd (search rules)
unentered k next codes more (HandlerRecord h) why (Err x, made, e, same) = (Err x, rw made.leaves at made, e, refl)
unentered k next codes more (JoinRecord a b) why (Ok n, made, e, same) = absurd (search rules)
unentered k next codes more (JoinRecord a b) why (Err x, made, e, same) = (Err x, rw made.leaves at made, e, refl)
unentered k next codes more (CoreRecord core code) why ((no_code, e, same), kept) = ((no_code, e, refl), refl)
unentered k next codes more End why (e, same, kept) = absurd (search rules)

-- the record is entered, or it changes nothing
pub entered_or_not : (k next : Contents) (codes more : List ℕ) (r : Record) (answer : Result (Unit {0}) Cause) → Enters k codes r answer next more → MatchResult answer (λ _. Enters k codes r (Ok tt) next more) (λ why. Enters k codes r (Err why) k codes)
entered_or_not k next codes more r (Ok tt) h = h
entered_or_not k next codes more r (Err why) h = unentered k next codes more r why h

module _ (bytes : List ℕ) (s : Standing) (k : Contents) (codes : List ℕ) (reached : Reached bytes s k codes) (r : Record) (found : NextIs bytes s (Ok (Some r))) where
  -- a core's record finds room for its code
  pub room : (core code : ℕ) → r ≡ CoreRecord core code → length codes < 8
  room core code is =
      let p = passes bytes s r found in
      let c = counts bytes s k codes reached in
      grind (arith, nat_tests, p.placed, p.is, c.counted)

  pub further : (after : Standing) (next : Contents) (more : List ℕ) → after ≡ past bytes s → Enters k codes r (Ok tt) next more → Reached bytes after next more
  further after next more is entered = rw is (one_more r reached found entered)

  pub refused_entry : (why : Cause) (f : Fault) → Enters k codes r (Err why) k codes → f ≡ record { cause = why; place = s.place } → IsRefused bytes f
  refused_entry why f enters is =
      inr record {
        stands = s;
        contents = k;
        codes = codes;
        reached = reached;
        entry = r;
        next = found;
        cause = why;
        enters = enters;
        fault = is;
      }
