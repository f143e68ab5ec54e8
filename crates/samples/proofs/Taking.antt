-- A test of the calls of a sample: a plan takes them all.
use Rattle.std.proofs.Common.{◌≡◌, ℕ, zero, suc, pred, ◌-◌, ◌<◌, ◌≤◌, Bool, true, ◌&&◌, List, [], ◌∷◌, sym, refl, ap, ◌∙◌, inl, inr, true≢false, arith}
use Rattle.std.specs.Prelude.{Some, None, Option, nat_lt, nat_le, ◌==◌}
use Rattle.std.proofs.lemmas.Bool.{eqb-true, and_parts, or_cases}
use Rattle.plan.specs.Contents.{Contents, count, at, round, empty}
use Rattle.plan.specs.Calls.{added, MayJoin, ClosesCircle}
use Rattle.plan.specs.Rows.{longest_round}
use Rattle.samples.specs.declared.Call.{Call}
use Rattle.samples.specs.declared.Call.TheVariants.{Register, Join}
use Rattle.samples.specs.Plans.{called, Taken, AllTaken}
use Rattle.samples.proofs.Sound.{Onward, chain_onward, ranged, ranged_so, may_join, may_join_so}
use Rattle.samples.proofs.Deciding.{lt_decides, le_decides, true_decides, and_decides}

abbrev pub takes : Contents → Option Call → Bool
takes k None = true
takes k (Some (Register h)) = nat_lt (count k) 64 && (ranged h && nat_le (round (added k h)) longest_round)
takes k (Some (Join a b)) = nat_le 1 a && may_join k a b

abbrev pub takes_all : Contents → List (Option Call) → Bool
takes_all k [] = true
takes_all k (c ∷ calls) = takes k c && takes_all (called k c) calls

pred_less : (a : ℕ) → pred a ≡ a - 1
pred_less zero = refl
pred_less (suc a) = omega arith

may_join_taken : (k : Contents) (a b : ℕ) → Onward k → 1 ≤ a → may_join k a b ≡ true → MayJoin k a b
may_join_taken k a b f low e =
    let r = may_join_so k a b e in
    let l : a < b = r.0 in
    let m : b ≤ count k = r.1.0 in
    record {
      known_a = (low, omega arith);
      known_b = (omega arith, m);
      periods = ap (λ (i : ℕ). (at k i).period) (sym (pred_less a)) ∙ r.1.1.0 ∙ ap (λ (i : ℕ). (at k i).period) (pred_less b);
      offsets = ap (λ (i : ℕ). (at k i).offset) (sym (pred_less a)) ∙ r.1.1.1 ∙ ap (λ (i : ℕ). (at k i).offset) (pred_less b);
      straight = straight l;
    }
  where
    straight : a < b → ClosesCircle k a b → ⊥
    straight l (inl q) = omega arith
    straight l (inr c) = let back : b - 1 < a - 1 = chain_onward k f c in omega arith

taken_so : (k : Contents) (c : Option Call) → Onward k → takes k c ≡ true → Taken k c
taken_so k None f e = tt
taken_so k (Some (Register h)) f e =
    let r = (and_decides _ _ (lt_decides (count k) 64) (and_decides _ _ (true_decides (ranged h)) (le_decides (round (added k h)) longest_round))).0 e in
    record { room = r.0; range = ranged_so h r.1.0; short = r.1.1 }
taken_so k (Some (Join a b)) f e =
    let r = (and_decides _ _ (le_decides 1 a) (true_decides (may_join k a b))).0 e in
    may_join_taken k a b f r.0 r.1

still_onward : (k : Contents) (c : Option Call) → Onward k → takes k c ≡ true → Onward (called k c)
still_onward k None f e = f
still_onward k (Some (Register h)) f e = f
still_onward k (Some (Join a b)) f e = λ x y j.
    elim (or_cases (k.joined x y) (suc x == a && suc y == b) j) [
      | inl h ↦ f x y h
      | inr h ↦ (let q = and_parts (suc x == a) (suc y == b) h in
          let l : a < b = (may_join_so k a b (and_parts (nat_le 1 a) (may_join k a b) e).1).0 in
          let u : suc x ≡ a = eqb-true (suc x) a q.0 in
          let v : suc y ≡ b = eqb-true (suc y) b q.1 in
          omega arith)
    ]

all_taken_from : (k : Contents) (calls : List (Option Call)) → Onward k → takes_all k calls ≡ true → AllTaken k calls
all_taken_from k [] f e = tt
all_taken_from k (c ∷ calls) f e =
    let r = and_parts (takes k c) (takes_all (called k c) calls) e in
    (taken_so k c f r.0, all_taken_from (called k c) calls (still_onward k c f r.0) r.1)

pub all_taken : (calls : List (Option Call)) → takes_all empty calls ≡ true → AllTaken empty calls
all_taken calls e = all_taken_from empty calls (λ a b j. absurd (true≢false (sym j))) e
