-- Indexed rows: what a walk along links tells, and the index with one row more.
use Rattle.std.proofs.Common.{◌≡◌, Bool, IsTrue, ℕ, ◌+◌, ◌-◌, ◌<◌, ◌≤◌, ◌≢◌, List, length, get_or, set, take, sym, ap, ◌∙◌, inl, inr, arith, get_or-set_other, get_or-set_same, length-set}
use Rattle.std.specs.Prelude.{slice_index}
use Rattle.std.specs.List.{Contains as Has}
use Rattle.std.proofs.lemmas.Bool.{cases_lt, cases_eq}
use Rattle.std.proofs.lemmas.List.{length-take-le, get_or-take, get_or_default, take_more_set}
use Rattle.gather.specs.Levels.{Once, Tells}
use Rattle.gather.proofs.Growing.{once_push}
use Rattle.gather.specs.Filing.{place, FitsIndex, Housed, Headed, Linked, Ahead}

module _ {A : Type 0} (filed : A → ℕ) (places count : ℕ) (homes : List ℕ) (rows : List A) (x : A)
    (housed : Housed filed places homes count rows) where
  -- a row that holds `x` is filed where `x` is
  at_home : (j : ℕ) → j < count → get_or rows j x ≡ x → slice_index homes j ≡ place (filed x) places
  at_home j lt e = housed j x lt ∙ ap (λ y. place (filed y) places) e

  module _ (next : List ℕ) (linked : Linked next homes count) (row : ℕ) (lt : row < count)
      (here : slice_index homes row ≡ place (filed x) places) (not : get_or rows row x ≡ x → ⊥)
      (behind : (j : ℕ) → row + 1 ≤ j → j < count → get_or rows j x ≡ x → ⊥) where
    pub behind_more : (j : ℕ) → slice_index next row ≤ j → j < count → get_or rows j x ≡ x → ⊥
    behind_more j le jl e =
        elim (cases_lt j row) [
          | inl less ↦ (linked row lt).1 j le less (at_home j jl e ∙ sym here)
          | inr ge ↦
              (elim (cases_lt row j) [
                | inl more ↦ behind j (omega arith) jl e
                | inr same ↦ (let at : j ≡ row = omega arith in not (rw at at e))
              ])
        ]

    pub here_more : (m : ℕ) → slice_index next row ≡ m + 1 → slice_index homes m ≡ place (filed x) places
    here_more m e = (linked row lt).2 m e ∙ here

-- the index once the row at `count` holds `x`
module _ (heads homes next : List ℕ) (count home last : ℕ) (room : count < length homes) where
  kept : (j : ℕ) → j < count → slice_index (set homes count home) j ≡ slice_index homes j
  kept j lt = get_or-set_other homes count j home 0 (omega arith)

  put : slice_index (set homes count home) count ≡ home
  put = get_or-set_same homes count home 0 room

  pub housed_push : {A : Type 0} (filed : A → ℕ) (rows : List A) (x : A) → count < length rows →
      home ≡ place (filed x) (length heads) → Housed filed (length heads) homes count rows →
      Housed filed (length (set heads home (count + 1))) (set homes count home) (count + 1)
      (set rows count x)
  housed_push filed rows x fits is housed j d lt =
      rw length-set (elim (cases_lt j count) [
        | inl less ↦
            (kept j less ∙ housed j d less ∙
            ap (λ y. place (filed y) (length heads)) (sym (get_or-set_other rows count j x d (omega arith))))
        | inr ge ↦
            (let at : count ≡ j = omega arith in
            rw (← at) (put ∙ is ∙ ap (λ y. place (filed y) (length heads)) (sym (get_or-set_same rows count x d fits))))
      ])

  module _ (within : home < length heads) where
    led : slice_index (set heads home (count + 1)) home ≡ count + 1
    led = get_or-set_same heads home (count + 1) 0 within

    -- at a place `h`, what is said of row j
    abbrev Leads : ℕ → ℕ → Type 0
    Leads j h =
        (j < slice_index (set heads home (count + 1)) h) ×
        (slice_index (set heads home (count + 1)) h ≤ count + 1) ×
        (slice_index (set homes count home) (slice_index (set heads home (count + 1)) h - 1) ≡ h)

    leads_home : (j : ℕ) → j < count + 1 → Leads j home
    leads_home j lt =
        let e : count + 1 - 1 ≡ count = omega arith in
        rw led (lt, omega arith, rw e put)

    leads_other : (j : ℕ) → j < count → slice_index homes j ≢ home → Headed heads homes count →
        Leads j (slice_index homes j)
    leads_other j lt ne headed =
        let h = headed j lt in
        let far : slice_index (set heads home (count + 1)) (slice_index homes j) ≡ slice_index heads (slice_index homes j) =
        get_or-set_other heads home (slice_index homes j) (count + 1) 0 (λ e. ne e) in
        rw far (h.0, omega (arith, h.1), kept (slice_index heads (slice_index homes j) - 1) (omega (arith, h.0, h.1)) ∙ h.2)

    pub headed_push : Headed heads homes count →
        Headed (set heads home (count + 1)) (set homes count home) (count + 1)
    headed_push headed j lt =
        elim (cases_lt j count) [
          | inl less ↦
              (rw (kept j less) (elim (cases_eq (slice_index homes j) home) [
                | inl same ↦ rw same (leads_home j lt)
                | inr other ↦ leads_other j less other headed
              ]))
          | inr ge ↦
              (let at : count ≡ j = omega arith in
              rw (← at) (rw (put) (leads_home count (omega arith))))
        ]

  module _ (linked_room : count < length next) (ahead : Ahead homes count home last) where
    pub linked_push : Linked next homes count →
        Linked (set next count last) (set homes count home) (count + 1)
    linked_push linked k lt =
        elim (cases_lt k count) [
          | inl less ↦
              (let l = linked k less in
              let n : slice_index (set next count last) k ≡ slice_index next k = get_or-set_other next count k last 0 (omega arith) in
              rw n (
                l.0,
                λ j le jk e. l.1 j le jk (sym (kept j (omega arith)) ∙ e ∙ kept k less),
                λ m e. kept m (omega (arith, l.0)) ∙ l.2 m e ∙ sym (kept k less),
              ))
          | inr ge ↦
              (let at : count ≡ k = omega arith in
              rw (← at) (rw (get_or-set_same next count last 0 linked_room) (
                ahead.0,
                λ j le jk e. ahead.1 j le jk (sym (kept j jk) ∙ e ∙ put),
                λ m e. kept m (omega (arith, ahead.0)) ∙ ahead.2 m e ∙ sym put,
              )))
        ]

pub fits_push : {A : Type 0} (rows : List A) (heads homes next : List ℕ) (row home : ℕ) (x : A)
    (link here last : ℕ) →
    FitsIndex rows heads homes next →
    FitsIndex (set rows row x) (set heads home link) (set homes row here) (set next row last)
fits_push rows heads homes next row home x link here last fits =
    rw (length-set rows, length-set heads, length-set homes, length-set next) fits

-- the walk: what `==` answers of the row at hand
module _ {A : Type 0} (eq : A → A → Bool) (told : Tells eq) (rows : List A) (count row : ℕ)
    (lt : row < count) (fits : count ≤ length rows) (y x : A) (is : y ≡ get_or rows row y) where
  read_at : get_or rows row x ≡ y
  read_at = get_or_default rows row x y (omega arith) ∙ sym is

  pub has_read : IsTrue (eq y x) → Has (take count rows) x
  has_read t = (row, omega (arith, length-take-le count rows fits), get_or-take count rows row x lt ∙ read_at ∙ (told y x).0 t)

  pub not_read : (IsTrue (eq y x) → ⊥) → get_or rows row x ≡ x → ⊥
  not_read denied e = denied ((told y x).1 (sym read_at ∙ e))

pub once_push_row : {A : Type 0} (rows : List A) (count : ℕ) (x : A) → count < length rows →
    Once (take count rows) → (Has (take count rows) x → ⊥) →
    Once (take (count + 1) (set rows count x))
once_push_row rows count x lt once lacks =
    rw (take_more_set rows count x lt) (once_push (take count rows) x once lacks)
