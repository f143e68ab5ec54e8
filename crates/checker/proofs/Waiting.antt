-- Units in which nothing happens, taken at once.
use Rattle.std.proofs.Common.{◌≡◌, ℕ, ◌+◌, ◌-◌, ◌<◌, ◌≤◌, List, [], ◌∷◌, subst, inl, inr, arith}
use Rattle.std.proofs.lemmas.Bool.{cases_lt}
use Rattle.policy.specs.Laws.{Choice}
use Rattle.plan.specs.Contents.{Contents, contents, Sound}
use Rattle.model.specs.declared.states.State.{State}
use Rattle.checker.specs.Moments.{Calm}
use Rattle.checker.specs.Fronts.{idle, Front}
use Rattle.checker.proofs.Idling.{idle_timely, idle_front, idle_fits}
use Rattle.checker.specs.Watching.{Watches, nothing, further}
use Rattle.checker.specs.declared.rounds.Rounds.{Rounds}
use Rattle.checker.specs.Walks.{Quiet, Reached, Stands, Later}

module _ (p : Contents) (D : Choice) (ok : Sound p) (w t n : ℕ) (rows : List State) (is : rows ≡ idle ∷ []) (calm : Calm p t n) (r : Reached p D w t rows) where
  front : (j : ℕ) → j ≤ n → Front p D (t + j) (idle ∷ [])
  front = idle_front p D ok t n calm (rw is at r.front)

  pub still_front : (j : ℕ) → j ≤ n → Front p D (t + j) rows
  still_front j le = rw is (front j le)

  pub still_reached : Reached p D w (t + n) rows
  still_reached = record {
    front = still_front n (omega arith);
    quiet = λ e le. elim (cases_lt t e) [ inl later ↦ on e le later | inr before ↦ r.quiet e (omega arith) ];
  }
    where
      on : (e : ℕ) → e ≤ t + n → t < e → Quiet p D w e
      on e le later =
          let at : t + (e - t) ≡ e = omega (arith, later) in
          let within : e - t ≤ n = omega (arith, le, later) in
          subst (Quiet p D w) at (record {
            fits = λ o. (r.quiet t (omega arith)).fits (idle_fits p D ok t n calm (rw is at r.front) (e - t) w within o);
            timely = idle_timely p D ok (t + (e - t)) (front (e - t) within);
          })

  -- one look at the states of all of them
  pub still_watches : {O : Type 0} (seen : O → Contents → ℕ → ℕ → List State → O → Type 0) (a b : O) → 1 ≤ n → seen a p (t + n) n rows b → Watches seen p D (t + 1) a (t + n + 1) b
  still_watches seen a b some look =
      let e : t + n + 1 - 1 ≡ t + n = omega arith in
      further nothing n rows some (omega arith)
      (λ k l. let z : t + 1 + k ≡ t + (k + 1) = omega arith in rw z (still_front (k + 1) (omega (arith, l))))
      (rw e look)

module _ {D W O : Type 0} (first : D → Choice) (members : W → List State) (room : W → ℕ) (seen : O → Contents → ℕ → ℕ → List State → O → Type 0) (s u : Rounds D W O) (w n : ℕ)
    (plan : u.moment.plan.now ≡ s.moment.plan.now) (d : u.d.now ≡ s.d.now) (front_is : u.front ≡ s.front) (back_is : u.back ≡ s.back) (time : u.moment.time ≡ s.moment.time + n)
    (ok : Sound (contents s.moment.plan.now)) (is : members s.front ≡ idle ∷ []) (calm : Calm (contents s.moment.plan.now) s.moment.time n) (st : Stands first members room seen w s) where
  pub later_idle : 1 ≤ n → seen s.observer (contents u.moment.plan.now) u.moment.time n (members s.front) u.observer → Later first members room seen n w s u
  later_idle some look = record {
    clock = time;
    stands = record {
      front_room = rw front_is st.front_room;
      back_room = rw back_is st.back_room;
      reached = rw (plan, d, time, front_is) (still_reached (contents s.moment.plan.now) (first s.d.now) ok w s.moment.time n (members s.front) is calm st.reached);
    };
    looks = rw time (still_watches (contents s.moment.plan.now) (first s.d.now) ok w s.moment.time n (members s.front) is calm st.reached seen s.observer u.observer some (rw (plan, time) at look));
  }
