-- From mark to mark: where the rounds stand after so many levels, and which verdict that gives.
use Rattle.std.proofs.Common.{◌≡◌, ℕ, suc, ◌+◌, ◌-◌, ◌*◌, ◌<◌, ◌≤◌, List, [], ◌∷◌, ◌++◌, length, refl, sym, ap, subst, subst₂, inl, inr, mul-le-mul_left, arith}
use native.Mathlib.Decide.{ℕ_discrete}
use Rattle.std.specs.List.{Contains as Has}
use Rattle.std.proofs.lemmas.List.{length_push}
use Rattle.std.proofs.lemmas.List.Elements.{Contains-append_left, Contains-append_right, Contains-push_cases}
use Rattle.gather.specs.Levels.{Fresh, Walk, start, onward, Closes as LevelCloses, Bursts, Stops}
use Rattle.gather.proofs.Growing.{once_push}
use Rattle.policy.specs.Laws.{Choice}
use Rattle.plan.specs.Contents.{Contents, contents, Sound, round, settling}
use Rattle.plan.specs.Rows.{longest_round}
use Rattle.model.specs.declared.verdicts.Rows.TheVariants.{Marks}
use Rattle.model.specs.declared.verdicts.Verdict.{Verdict}
use Rattle.model.specs.declared.verdicts.Verdict.TheVariants.{Kept, RowsShort}
use Rattle.model.specs.Runs.{mark, Marked}
use Rattle.model.specs.Verdicts.{Outnumber, Closes, VerdictIs}
use Rattle.model.proofs.Marks.{mark_next}
use Rattle.model.proofs.Extend.{some_run}
use Rattle.model.specs.declared.states.State.{State}
use Rattle.model.specs.Checks.{HoldsMarks, most_rows}
use Rattle.checker.specs.declared.rounds.Rounds.{Rounds}
use Rattle.checker.specs.Watching.{nothing, unseen}
use Rattle.checker.specs.Walks.{Quiet, Reached, Early, Stopped, Stands, SamePlan, Looks, HaltsIn, Rounded, Ended, end_of_time}
use Rattle.checker.proofs.Walking.{same_still, same_on, looks_on}
use Rattle.checker.proofs.Marks.{MarkRows, no_rows, more_rows, stays_open, closes, row_marked, marks_held, marks_fit, marks_number, marks_outnumber, passes}

-- what holds of n, and of k if that is less, holds of k
last_or_less : (P : ℕ → Type 0) (n k : ℕ) → k < n + 1 → P n → (k < n → P k) → P k
last_or_less P n k l last less = go (ℕ_discrete k n)
  where
    go : Dec (k ≡ n) → P k
    go (yes e) = subst P (sym e) last
    go (no e) = less (omega arith)

-- no clock stops before all levels are through
marks_soon : (p : Contents) (level : ℕ) → Sound p → settling p < 65536 → level ≤ most_rows → mark p level + round p < end_of_time
marks_soon p level ok low few =
    let rounds : level * round p ≤ level * longest_round = mul-le-mul_left level ok.short in
    omega (arith, ok.short, rounds)

module _ {D W O : Type 0} (first : D → Choice) (members : W → List State) (room : W → ℕ) (look : O → Contents → ℕ → ℕ → List State → O → Type 0) (s : Rounds D W O) where
  abbrev p : Contents
  p = contents s.moment.plan.now

  abbrev C : Choice
  C = first s.d.now

  abbrev shows : Rounds D W O → List State
  shows u = members u.front

  -- they began at the settling time, with tables of w rows
  pub record Settled (w : ℕ) : Type 0 where
    pub ok : Sound p
    pub clock : s.moment.time ≡ settling p
    pub low : s.moment.time < 65536
    pub stands : Stands first members room look w s

  module _ (w : ℕ) (begun : Settled w) where
    -- after so many levels they stand at the mark time of that number, and `seen` are the marks before
    record At (level : ℕ) (seen : List State) (t : Rounds D W O) : Type 0 where
      same : SamePlan first members room look s t
      clock : t.moment.time ≡ mark p level
      reached : Reached p C w (mark p level) (shows t)
      stands : Stands first members room look w t
      looks : Looks first members room look (s.moment.time + 1) (mark p level + 1) s t
      below : MarkRows p C level seen

    stands_there : (level : ℕ) (t : Rounds D W O) → SamePlan first members room look s t → t.moment.time ≡ mark p level → Stands first members room look w t → Reached p C w (mark p level) (shows t)
    stands_there level t same clock x = rw (same.plan, same.d, clock) at x.reached

    walked : {level : ℕ} {seen : List State} {t : Rounds D W O} → Walk shows (Rounded first members room look) s level seen t → level ≤ most_rows → At level seen t
    walked start few =
        let zero_mark : s.moment.time ≡ mark p 0 = omega (arith, begun.clock) in
        let same = same_still first members room look s in
        record { same = same; clock = zero_mark; reached = stands_there 0 s same zero_mark begun.stands; stands = begun.stands; looks = rw (← zero_mark) nothing; below = no_rows p C }
    walked (onward {t} {u} {level} {seen} walk fresh step) few =
        let h = walked walk (omega arith) in
        let soon = marks_soon p level begun.ok (omega (arith, begun.clock, begun.low)) (omega arith) in
        let here : round (contents t.moment.plan.now) ≡ round p = ap (λ q. round (contents q)) h.same.plan in
        let x = step.1 w (h.stands, omega (arith, here, h.clock, soon)) in
        let same = same_on first members room look s t u h.same step.0 in
        let e : suc level ≡ level + 1 = omega arith in
        let next : u.moment.time ≡ mark p (level + 1) = omega (arith, x.clock, here, h.clock, rw e at (mark_next p level)) in
        record {
          same = same;
          clock = next;
          reached = stands_there (level + 1) u same next x.stands;
          stands = x.stands;
          looks = looks_on first members room look (s.moment.time + 1) (mark p level + 1) (mark p (level + 1) + 1) s t u h.same h.looks (rw (h.clock, next) at x.looks);
          below = more_rows p C level seen (shows t) h.below h.reached.front;
        }

    -- the tests at a mark time with a new row, where the rows so far fit into the mark table
    module _ (all : List State) (marks : ℕ) (fits : length all ≤ marks) where
      abbrev Tested : ℕ → Type 0
      Tested k = (¬ Closes p C k) × (¬ Outnumber (Marked p C k) marks)

      tested_at : (level : ℕ) (seen : List State) (t : Rounds D W O) → At level seen t → Fresh seen (shows t) → ((x : State) → Has (seen ++ shows t) x → Has all x) → Tested level
      tested_at level seen t h fresh in_all = (
        stays_open p C level seen (shows t) h.below h.reached.front fresh,
        marks_fit p C (level + 1) (seen ++ shows t) all (more_rows p C level seen (shows t) h.below h.reached.front) level refl marks in_all fits,
      )

      tested : {level : ℕ} {seen : List State} {t : Rounds D W O} → Walk shows (Rounded first members room look) s level seen t → level ≤ most_rows
          → ((x : State) → Has seen x → Has all x) → (k : ℕ) → k < level → Tested k
      tested start few in_all k l = absurd (omega arith)
      tested (onward {t} {u} {level} {seen} walk fresh step) few in_all k l =
          last_or_less Tested level k l (tested_at level seen t (walked walk (omega arith)) fresh in_all)
          (tested walk (omega arith) (λ x h. in_all x (Contains-append_left seen (shows t) x h)) k)

      quiet_at : (level : ℕ) (seen : List State) (t : Rounds D W O) → At level seen t → (e : ℕ) → e < mark p level → Quiet p C w e
      quiet_at level seen t h e l = h.reached.quiet e (omega arith)

      -- some run has a state at each time
      some_row : (level : ℕ) (seen : List State) (t : Rounds D W O) → At level seen t → (x : State) × Has (shows t) x
      some_row level seen t h =
          let r = some_run p C begun.ok in
          let x = h.reached.front.each (r.0 (mark p level)) (r.0, r.1, refl) in
          (x.0, x.1)

      -- ---- nothing new came

      module _ (level : ℕ) (t : Rounds D W O) (few : level ≤ most_rows) (g : LevelCloses shows (Rounded first members room look) s level t all) where
        here : At level g.seen t
        here = walked g.walk few

        row : (x : State) × Has (shows t) x
        row = some_row level g.seen t here

        some_level : 1 ≤ level
        some_level = (let o = here.below.only row.0 (g.old row.0 row.1) in omega (arith, o.1))

        one_more : level ≡ level - 1 + 1
        one_more = omega (arith, some_level)

        pub kept_marks : HoldsMarks p C (level - 1) all
        kept_marks = marks_held p C level g.seen all here.below (level - 1) one_more g.collects

        pub kept_looks : Looks first members room look (s.moment.time + 1) (mark p level + 1) s t
        kept_looks = here.looks

        pub kept_verdict : VerdictIs p C w marks (Kept level (length all))
        kept_verdict = (
          mark p level,
          passes p C w marks level (mark p level) (tested g.walk few g.collects.each) (quiet_at level g.seen t here) (omega arith),
          (
            refl,
            (here.reached.quiet (mark p level) (omega arith)).fits,
            (here.reached.quiet (mark p level) (omega arith)).timely,
            closes p C level g.seen (shows t) here.below here.reached.front some_level g.old,
            marks_number p C (level - 1) all row.0 kept_marks,
          ),
        )

      -- ---- there was no room for a mark

      module _ (level : ℕ) (t : Rounds D W O) (few : level ≤ most_rows) (full : length all ≡ marks) (g : Bursts shows (Rounded first members room look) s level t all) where
        there : At level g.seen t
        there = walked g.walk few

        rows : MarkRows p C (level + 1) (g.seen ++ shows t)
        rows = more_rows p C level g.seen (shows t) there.below there.reached.front

        row_seen : (x : State) → Has (all ++ g.extra ∷ []) x → Has (g.seen ++ shows t) x
        row_seen x h = elim (Contains-push_cases all g.extra x h) [
          | inl k ↦ (elim (g.only x k) [ inl o ↦ Contains-append_left g.seen (shows t) x o | inr n ↦ Contains-append_right g.seen (shows t) x n ])
          | inr e ↦ subst (Has (g.seen ++ shows t)) e (Contains-append_right g.seen (shows t) g.extra g.there)
        ]

        pub short_looks : Looks first members room look (s.moment.time + 1) (t.moment.time + 1) s t
        short_looks = rw there.clock there.looks

        pub short_verdict : VerdictIs p C w marks (RowsShort Marks t.moment.time)
        short_verdict = (
          mark p level,
          passes p C w marks level (mark p level) (tested g.walk few g.each) (quiet_at level g.seen t there) (omega arith),
          (
            there.clock,
            (there.reached.quiet (mark p level) (omega arith)).fits,
            (there.reached.quiet (mark p level) (omega arith)).timely,
            (
              level,
              refl,
              stays_open p C level g.seen (shows t) there.below there.reached.front (g.extra, g.there, λ h. g.lacks (g.each g.extra h)),
              marks_outnumber p C level marks (all ++ g.extra ∷ []) g.extra (once_push all g.extra g.once g.lacks)
                  (λ x h. row_marked p C (level + 1) (g.seen ++ shows t) (all ++ g.extra ∷ []) rows level refl x (row_seen x h))
                  (omega (arith, length_push all g.extra, full)),
            ),
          ),
        )

      -- ---- a verdict came on the way

      module _ (level : ℕ) (v : Verdict) (end : Rounds D W O) (few : level ≤ most_rows) (g : Stops shows (Rounded first members room look) (Ended first members room look) s level v end all) where
        last : At level g.seen g.last
        last = walked g.walk few

        halts : HaltsIn first members room look (round (contents g.last.moment.plan.now)) w g.last v end
        halts =
            let soon = marks_soon p level begun.ok (omega (arith, begun.clock, begun.low)) few in
            let here : round (contents g.last.moment.plan.now) ≡ round p = ap (λ q. round (contents q)) last.same.plan in
            g.halted.1 w (last.stands, omega (arith, here, last.clock, soon))

        pub fault_looks : Looks first members room look (s.moment.time + 1) (unseen p v) s end
        fault_looks =
            let e : unseen (contents g.last.moment.plan.now) v ≡ unseen p v = ap (λ q. unseen (contents q) v) last.same.plan in
            let x = subst₂ (λ (f n : ℕ). Looks first members room look f n g.last end) (ap (λ n. n + 1) last.clock) e halts.looks in
            looks_on first members room look (s.moment.time + 1) (mark p level + 1) (unseen p v) s g.last end last.same last.looks x

        stop : Stopped p C w (mark p level + 1) (mark p (level + 1)) v
        stop =
            let x = halts.stopped in
            let e : suc level ≡ level + 1 = omega arith in
            let next : mark p level + round p ≡ mark p (level + 1) = sym (rw e at (mark_next p level)) in
            rw (last.same.plan, last.same.d, last.clock, next) at x

        pub fault_early : Early v
        fault_early = stop.early

        pub fault_verdict : VerdictIs p C w marks v
        fault_verdict = (
          stop.time,
          passes p C w marks (level + 1) stop.time test stop.quiet stop.high,
          stop.gives marks,
        )
          where
            test : (k : ℕ) → k < level + 1 → Tested k
            test k l =
                last_or_less Tested level k l (tested_at level g.seen g.last last g.fresh g.collects.each)
                (tested g.walk few (λ x h. g.collects.each x (Contains-append_left g.seen (shows g.last) x h)) k)

-- a verdict that comes before the settling time or at it
pub first_verdict : (p : Contents) (D : Choice) (w marks : ℕ) (v : Verdict) → Stopped p D w 0 (settling p) v → VerdictIs p D w marks v
first_verdict p D w marks v x = (x.time, passes p D w marks 0 x.time (λ k l. absurd (omega arith)) x.quiet (omega (arith, x.high)), x.gives marks)
