-- What the calls of a plan tell of its contents, and a state in memory of the state that it holds.
use Rattle.std.proofs.Common.{◌≡◌, ℕ, ◌+◌, ◌-◌, ◌<◌, ◌≤◌, Bool, true, false, cond, not, ◌&&◌, ltb, leb, List, length, get_or, drop, Decides, MatchBool, MatchOption, IfSome, is_some, Some, None, Option, sym, refl, ap, ◌∙◌, subst, inl, inr, arith}
use Rattle.std.proofs.lemmas.Bool.{not-true, not_from_false, cases_Bool, true≢false}
use Rattle.std.proofs.lemmas.Bool.Decides.{nat_tests}
use Rattle.std.proofs.lemmas.List.FromFn.{length-range_with_len, get_or-range_with_len}
use Rattle.std.specs.List.{range_with_len, HoldsAt, AllWithin}
use Rattle.std.proofs.lemmas.List.{get_or-take, get_or-drop, length-drop, ext_get_or}
use Rattle.plan.specs.declared.handlers.Handler.{Handler}
use Rattle.plan.specs.Contents.{Contents, Sound, count, at, known, Known, joins}
use Rattle.model.specs.Units.{left, Ready}
use Rattle.model.specs.declared.states.State.{State}
use Rattle.model.specs.Memory.{times}
use Rattle.checker.specs.Choosing.{HoldsUp}

-- rows that agree from a place on
pub drop_same : (n : ℕ) (x y : List ℕ) → length x ≡ length y → ((i : ℕ) → n ≤ i → get_or x i 0 ≡ get_or y i 0) → drop n x ≡ drop n y
drop_same n x y long same =
    ext_get_or 0 (drop n x) (drop n y) (length-drop n x ∙ ap (λ k. k - n) long ∙ sym (length-drop n y))
    (λ i _. get_or-drop n x i 0 ∙ same (n + i) (omega arith) ∙ sym (get_or-drop n y i 0))

-- what `any` tells of the numbers 1 to n, where they are counted from 0
pub any_number : (n : ℕ) (P : ℕ → Type 0) → ((a : ℕ) → P a → (1 ≤ a) × (a ≤ n)) → (r : Bool)
    → MatchBool r ((k : ℕ) × (k < length (range_with_len 0 n)) × HoldsAt (λ i. P (i + 1)) (range_with_len 0 n) k) (AllWithin (λ i. ¬ P (i + 1)) (range_with_len 0 n) 0 (length (range_with_len 0 n)))
    → Decides r ((a : ℕ) × P a)
any_number n P known true h = (λ _. (get_or (range_with_len 0 n) h.0 0 + 1, h.2 0), λ _. refl)
any_number n P known false h = (
  λ e. absurd (true≢false (sym e)),
  λ (a, x). let k = known a x in let e : a ≡ get_or (range_with_len 0 n) (a - 1) 0 + 1 = omega (arith, k.0, k.1, get_or-range_with_len 0 n (a - 1) 0) in
      absurd (h (a - 1) 0 (omega arith) (omega (arith, length-range_with_len 0 n, k.0, k.1)) (subst P e x)),
)

module _ (p : Contents) (n : ℕ) where
  pub known_from : true ≡ known p n → Known p n
  known_from e = grind (arith, nat_tests)

  pub known_test : Known p n → known p n ≡ true
  known_test k = grind (arith, nat_tests)

  -- a test of the handler of this number, which fails where there is none
  pub of_handler : {Q : Handler → Type 0} (P : Handler → Type 0) (x : Bool) (r : Option Handler) → is_some r ≡ known p n → IfSome r (λ h. h ≡ at p (n - 1))
      → MatchOption r (x ≡ false) Q → ((h : Handler) → Q h → Decides x (P h)) → Decides x (Known p n × P (at p (n - 1)))
  of_handler P x None test value e told = (λ t. absurd (true≢false (sym t ∙ e)), λ k. absurd (true≢false (sym (known_test k.0) ∙ sym test)))
  of_handler P x (Some h) test value q told = (λ t. (known_from test, subst P value ((told h q).0 t)), λ k. (told h q).1 (subst P (sym value) k.1))

module _ (p : Contents) (ok : Sound p) (s : State) where
  -- what `time_left` answers
  abbrev pub kept : ℕ → ℕ
  kept n = cond (leb 1 n && leb n 64) (get_or s.left (n - 1) 0) 0

  pub kept_is : (n : ℕ) → Known p n → kept n ≡ left (times p s) (n - 1)
  kept_is n k = let e = get_or-take (count p) s.left (n - 1) 0 (omega (arith, k.0, k.1)) in let f = ok.few in grind (arith, nat_tests)

  pub joins_known : (a b : ℕ) → joins p a b ≡ true → Known p a × Known p b
  joins_known a b j = let i = ok.inside (a - 1) (b - 1) in grind (arith, nat_tests, i)

  -- what the test of one handler tells
  pub holds_up : (i b : ℕ) (x : Bool) → x ≡ (joins p (i + 1) b && ltb 0 (get_or s.left i 0)) → Decides x (HoldsUp p (times p s) (i + 1) b)
  holds_up i b x e =
      let is = λ (j : joins p (i + 1) b ≡ true). get_or-take (count p) s.left i 0 (omega (arith, (joins_known (i + 1) b j).0)) in
      let place : i + 1 - 1 ≡ i = omega arith in grind (arith, nat_tests, is)

  pub ready_told : (n : ℕ) → Known p n → 0 < kept n → (w : Bool) → Decides w ((a : ℕ) × HoldsUp p (times p s) a n) → Decides (not w) (Known p n × Ready p (times p s) (n - 1))
  ready_told n known works w told = (
    λ b. (
      known,
      record {
        working = rw (kept_is n known) at works;
        waits = λ a j. let none : ¬ (0 < left (times p s) a) = λ l. true≢false (sym (told.1 (a + 1, (grind (arith, nat_tests, known), grind arith))) ∙ not-true w b) in omega arith;
      },
    ),
    λ (_, r). elim (cases_Bool w) [
      | inl e ↦ (let x = told.0 e in let z = r.waits (x.0 - 1) (grind (arith, nat_tests)) in absurd (omega (arith, x.1.1, z)))
      | inr e ↦ not_from_false w e
    ],
  )
