-- Every call on a plan has an answer, and leaves something: each of its tests is decided.
use Rattle.std.proofs.Common.{◌≡◌, ℕ, ◌+◌, ◌-◌, ◌<◌, ◌⊎◌, [], length, replicate, Ok, Err, Result, refl, inl, inr}
use mathlib.Core.Logic.Dec
use native.Mathlib.Decide.{dec_le, dec_lt, ℕ_discrete}
use Rattle.std.proofs.lemmas.List.{length-replicate}
use Rattle.policy.specs.Laws.{Choice}
use Rattle.plan.specs.declared.handlers.Handler.{Handler}
use Rattle.plan.specs.declared.refusals.Refusal.{Refusal}
use Rattle.plan.specs.declared.refusals.Refusal.TheVariants.{UnfitTables}
use Rattle.plan.specs.Rows.{longest_round}
use Rattle.plan.specs.Contents.{Contents, Sound, count, at, Known, round}
use Rattle.plan.specs.Calls.{refuses, accepts, after, added, register_tests, Registers, with_join, join_tests, Joins, reseated, reseat_tests, Reseats}
use Rattle.plan.specs.Histories.{registered, joined, reseated as seats}
use Rattle.model.specs.declared.verdicts.Verdict.{Verdict}
use Rattle.model.specs.declared.verdicts.Verdict.TheVariants.{Kept, Missed, RowsShort}
use Rattle.model.specs.Verdicts.{VerdictIs}
use Rattle.model.proofs.Exists.{one_verdict}
use Rattle.model.specs.Checks.{Tables, Unfit, most_rows, MarksAfter, SameSizes, Checks}
use Rattle.model.specs.Histories.{changes, checks, registering, joining, seating, checking, Event, History, Question, Lawful, question, Makes}
use Rattle.model.specs.Laws.{EveryCallAnswers}
use Rattle.model.proofs.Circles.{dec_either, chain_decided}
use Rattle.model.proofs.MarkRows.{marks_fit, row_of}
use Rattle.model.proofs.Sounds.{after_sound}

-- a decided test, before tests that have an answer
tested : {A P : Type 0} {why : Refusal} {rest : Result A Refusal → Type 0} → Dec P → (r : Result A Refusal) × rest r → (r : Result A Refusal) × refuses P why rest r
tested {why = why} (yes p) x = (Err why, inl (p, refl))
tested (no n) x = (x.0, inr (n, x.1))

accepted : {A : Type 0} (x : A) → (r : Result A Refusal) × accepts x r
accepted x = (Ok x, refl)

-- ---- register, join and reseat

module _ (k : Contents) where
  known_decided : (n : ℕ) → Dec (Known k n)
  known_decided n = Dec.and (dec_le 1 n) (dec_le n (count k))

  core_decided : (c : ℕ) → Dec ((c ≡ 0) ⊎ (8 < c))
  core_decided c = dec_either (ℕ_discrete c 0) (dec_lt 8 c)

  registers_some : (h : Handler) → (r : Result ℕ Refusal) × (next : Contents) × Registers k h r next
  registers_some h =
      let x : (r : Result ℕ Refusal) × register_tests k h (count k + 1) r =
      tested (dec_le 64 (count k))
      (tested (ℕ_discrete h.period 0)
      (tested (dec_either (ℕ_discrete h.shortest 0) (dec_lt h.longest h.shortest))
      (tested (core_decided h.core)
      (tested (dec_lt longest_round (round (added k h)))
      (accepted (count k + 1)))))) in
      (x.0, after k (added k h) x.0, record { answers = x.1; leaves = refl })

  joins_some : Sound k → (a b : ℕ) → (r : Result (Unit {0}) Refusal) × (next : Contents) × Joins k a b r next
  joins_some ok a b =
      let x : (r : Result (Unit {0}) Refusal) × join_tests k a b tt r =
      tested (dec_either (Dec.not (known_decided a)) (Dec.not (known_decided b)))
      (tested (dec_either (Dec.not (ℕ_discrete (at k (a - 1)).period (at k (b - 1)).period)) (Dec.not (ℕ_discrete (at k (a - 1)).offset (at k (b - 1)).offset)))
      (tested (dec_either (ℕ_discrete a b) (chain_decided k ok (b - 1) (a - 1)))
      (accepted tt))) in
      (x.0, after k (with_join k a b) x.0, record { answers = x.1; leaves = refl })

  reseats_some : (n c : ℕ) → (r : Result (Unit {0}) Refusal) × (next : Contents) × Reseats k n c r next
  reseats_some n c =
      let x : (r : Result (Unit {0}) Refusal) × reseat_tests k n c tt r =
      tested (Dec.not (known_decided n)) (tested (core_decided c) (accepted tt)) in
      (x.0, after k (reseated k n c) x.0, record { answers = x.1; leaves = refl })

-- ---- a check

module _ (k : Contents) (ok : Sound k) (D : Choice) (was : Tables) where
  unfit_decided : Dec (Unfit was)
  unfit_decided =
      dec_either (Dec.not (ℕ_discrete (length was.front) (length was.back)))
      (dec_either (dec_lt most_rows (length was.front)) (dec_either (dec_lt most_rows (length was.back)) (dec_lt most_rows (length was.marks))))

  same_sizes : SameSizes was was
  same_sizes = record { front = refl; back = refl; marks = refl }

  -- the tables that a verdict leaves
  tables_left : (v : Verdict) → VerdictIs k D (length was.front) (length was.marks) v → (is : Tables) × SameSizes was is × MarksAfter k D v was.marks is.marks
  tables_left (Kept j c) v =
      let x = marks_fit k D ok (length was.front) j c was.marks v in
      (record { front = was.front; back = was.back; marks = x.0 }, record { front = refl; back = refl; marks = x.1 }, x.2)
  tables_left (Missed t n) v = (was, same_sizes, tt)
  tables_left (RowsShort rows t) v = (was, same_sizes, tt)

  -- a check that finds this verdict
  pub check_finds : ¬ Unfit was → (v : Verdict) → VerdictIs k D (length was.front) (length was.marks) v → (is : Tables) × Checks k D was (Ok v) is
  check_finds fit v found =
      let x = tables_left v found in
      (x.0, record { answers = inr (fit, (v, found, refl)); sizes = x.1; leaves = x.2 })

  -- a check with unfit tables
  pub check_refused : Unfit was → Checks k D was (Err UnfitTables) was
  check_refused u = record { answers = inl (u, refl); sizes = same_sizes; leaves = refl }

  checks_some : (r : Result Verdict Refusal) × (is : Tables) × Checks k D was r is
  checks_some = go unfit_decided
    where
      go : Dec (Unfit was) → (r : Result Verdict Refusal) × (is : Tables) × Checks k D was r is
      go (yes u) = (Err UnfitTables, was, check_refused u)
      go (no n) =
          let v = one_verdict k D ok (length was.front) (length was.marks) in
          let x = check_finds n v.0 v.1 in
          (Ok v.0, x.0, x.1)

-- ---- every call

-- tables of so many rows
abbrev pub tables : ℕ → ℕ → ℕ → Tables
tables front back marks = record { front = replicate front (row_of []); back = replicate back (row_of []); marks = replicate marks (row_of []) }

some_answer : (h : History) (q : Question) → Lawful q → (event : Event) × (next : Contents) × (question event ≡ q) × Makes h.left event next
some_answer h (registering x) law = let a = registers_some h.left x in (changes (registered x a.0), a.1, refl, (law, a.2))
some_answer h (joining x y) law = let a = joins_some h.left (after_sound h.events h.left h.after) x y in (changes (joined x y a.0), a.1, refl, a.2)
some_answer h (seating n c) law = let a = reseats_some h.left n c in (changes (seats n c a.0), a.1, refl, a.2)
some_answer h (checking D front back marks) law =
    let was = tables front back marks in
    let a = checks_some h.left (after_sound h.events h.left h.after) D was in
    (checks D was a.0 a.1, h.left, rw (length-replicate front (row_of []), length-replicate back (row_of []), length-replicate marks (row_of [])) refl, (law, a.2, refl))

pub every_call_answers : EveryCallAnswers
every_call_answers = record {
  calls = some_answer;
  any_tables = λ h D was law. (let a = checks_some h.left (after_sound h.events h.left h.after) D was in (a.0, a.1, (law, a.2, refl)));
}
