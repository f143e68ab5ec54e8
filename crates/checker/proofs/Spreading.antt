-- Putting the states that follow one into a table: the only one, or one after another.
use Rattle.std.proofs.Common.{◌≡◌, ℕ, List, [], ◌∷◌, ◌++◌, ◌⊎◌, Result, Ok, Err, drop, sym, ap, ◌∙◌, subst, inl, inr, arith}
use Rattle.std.specs.List.{Contains as Has}
use Rattle.std.proofs.lemmas.List.{take-append-drop, length_push}
use Rattle.std.proofs.lemmas.List.Elements.{Contains-push_cases}
use Rattle.gather.specs.declared.tables.Inserted.TheVariants.{Full}
use Rattle.gather.specs.Levels.{Once}
use Rattle.gather.specs.Tables.{Inserts}
use Rattle.gather.proofs.Growing.{once_push}
use Rattle.policy.specs.Laws.{Choice}
use Rattle.plan.specs.Contents.{Contents, count}
use Rattle.model.specs.declared.states.State.{State}
use Rattle.checker.specs.declared.following.Successors.{Successors}
use Rattle.model.specs.Memory.{times}
use Rattle.model.specs.Same.{state_one}
use Rattle.checker.specs.Successors.{Coming, Exhausted, Came, SuccessorsOf, OnlySuccessor}
use Rattle.checker.proofs.Holding.{row_one}
use Rattle.checker.specs.Fronts.{StepsTo, Joined, Joins, Overrun}
use Rattle.checker.specs.declared.fronts.NoRoom.{NoRoom}

-- it is this state
abbrev pub Is : State → State → Type 0
Is s x = x ≡ s

pub put_over : (room : ℕ) (now after : List State) (s : State) → Once now → Inserts room now s Full after → Overrun (Is s) now room
put_over room now after s once (lacks, full, e) = record {
  rows = now ++ s ∷ [];
  once = once_push now s once lacks;
  such = λ x k. elim (Contains-push_cases now s x k) [ inl n ↦ inl n | inr is ↦ inr (sym is) ];
  many = omega (arith, length_push now s, full);
}

-- where x is the only state that follows
module _ {p : Contents} {D : Choice} {t : ℕ} {from x : State} (one : OnlySuccessor p D t from x) where
  is_only : (y : State) → StepsTo p D t from y → y ≡ x
  is_only y st = row_one p y x (one.only (times p y) st.0) (st.1 ∙ sym one.rest)

  only_steps : (y : State) → y ≡ x → StepsTo p D t from y
  only_steps y is = rw is (one.step, one.rest)

  pub joins_only : (room : ℕ) (was : List State) (r : Result (Unit {0}) NoRoom) (now : List State) → Joins (Is x) room was r now → Joins (StepsTo p D t from) room was r now
  joins_only room was (Ok u) now j = record {
    old = j.old;
    new = λ y st. j.new y (is_only y st);
    only = λ y k. elim (j.only y k) [ inl o ↦ inl o | inr is ↦ inr (only_steps y is) ];
  }
  joins_only room was (Err e) now o = record {
    rows = o.rows;
    once = o.once;
    such = λ y k. elim (o.such y k) [ inl n ↦ inl n | inr is ↦ inr (only_steps y is) ];
    many = o.many;
  }

-- what is to come are the states that follow
module _ {p : Contents} {D : Choice} {t : ℕ} {from : State} {q₀ : Successors} (all : SuccessorsOf p D t from q₀) where
  coming_steps : (x : State) → Coming q₀ x.left → StepsTo p D t from x
  coming_steps x c = (all.only x.left c, all.rest x.left c)

  steps_coming : (x : State) → StepsTo p D t from x → Coming q₀ x.left
  steps_coming x st =
      let r = all.each (times p x) st.0 in
      let n = count p in
      let rest : drop n r.0 ≡ drop n x.left = all.rest r.0 r.1 ∙ sym st.1 in
      let is : r.0 ≡ x.left = sym (take-append-drop n r.0) ∙ ap (λ l. l ++ drop n r.0) r.2 ∙ ap (λ l. times p x ++ l) rest ∙ take-append-drop n x.left in
      subst (Coming q₀) is r.1

-- of the rows that were to come at q₀, those that are not to come at q any more stand in `now`, with the rows of `was`, and no other
pub record Spreading (q₀ : Successors) (was : List State) (q : Successors) (now : List State) : Type 0 where
  pub old : (x : State) → Has was x → Has now x
  pub put : (x : State) → Coming q₀ x.left → Coming q x.left ⊎ Has now x
  pub only : (x : State) → Has now x → Has was x ⊎ Coming q₀ x.left
  pub due : (x : List ℕ) → Coming q x → Coming q₀ x

pub spread_none : (q : Successors) (was : List State) → Spreading q was q was
spread_none q was = record { old = λ x h. h; put = λ x h. inl h; only = λ x h. inl h; due = λ x h. h }

module _ {q₀ q r : Successors} {was now : List State} {s : State} (h : Spreading q₀ was q now) (came : Came q s.left r) where
  is_coming : (x : State) → x ≡ s → Coming q₀ x.left
  is_coming x is = rw is (h.due s.left came.due)

  pub spread_put : (after : List State) → Joined (Is s) now after → Spreading q₀ was r after
  spread_put after j = record {
    old = λ x k. j.old x (h.old x k);
    put = λ x k. elim (h.put x k) [
      | inl c ↦ (elim (came.still x.left c) [ inl e ↦ inr (j.new x (state_one x s e)) | inr d ↦ inl d ])
      | inr n ↦ inr (j.old x n)
    ];
    only = λ x k. elim (j.only x k) [ inl n ↦ h.only x n | inr is ↦ inr (is_coming x is) ];
    due = λ x k. h.due x (came.only x k);
  }

  module _ {p : Contents} {D : Choice} {t : ℕ} {from : State} (all : SuccessorsOf p D t from q₀) where
    pub spread_over : (room : ℕ) → Overrun (Is s) now room → Overrun (StepsTo p D t from) was room
    spread_over room o = record {
      rows = o.rows;
      once = o.once;
      such = λ x k. elim (o.such x k) [
        | inl n ↦ (elim (h.only x n) [ inl w ↦ inl w | inr c ↦ inr (coming_steps all x c) ])
        | inr is ↦ inr (coming_steps all x (is_coming x is))
      ];
      many = o.many;
    }

module _ {p : Contents} {D : Choice} {t : ℕ} {from : State} {q₀ : Successors} (all : SuccessorsOf p D t from q₀) where
  pub spread_all : {q : Successors} {was now : List State} → Spreading q₀ was q now → Exhausted q
      → Joined (StepsTo p D t from) was now
  spread_all h none = record {
    old = h.old;
    new = λ x st. elim (h.put x (steps_coming all x st)) [ inl c ↦ absurd (none x.left c) | inr n ↦ n ];
    only = λ x k. elim (h.only x k) [ inl o ↦ inl o | inr c ↦ inr (coming_steps all x c) ];
  }
