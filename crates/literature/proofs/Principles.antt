-- The article's three priority relations are the choices that the codes of the criteria stand for.
use Rattle.std.proofs.Common.{◌≡◌, ℕ, suc, ◌+◌, ◌-◌, ◌<◌, ◌≤◌, true, ◌⊎◌, ◌↔◌, List, get_or, sym, ap, ◌∙◌, subst, inl, inr, arith}
use Rattle.std.proofs.lemmas.Bool.{cases_order}
use Rattle.std.proofs.lemmas.Bool.Decides.{nat_tests}
use Rattle.policy.specs.declared.cores.Core.{Core}
use Rattle.policy.specs.declared.candidates.Candidate.{Candidate}
use Rattle.policy.specs.Deadlines.{distance}
use Rattle.policy.specs.Meanings.{by_rank, numbered}
use Rattle.std.specs.Ordering.{nat_cmp}
use Rattle.policy.specs.Distances.{distance_next, next_distance}
use Rattle.policy.specs.declared.codes.Code.{Code}
use Rattle.policy.specs.declared.codes.Code.TheVariants.{FixedPriority, RateMonotonic, EarliestDeadline}
use Rattle.policy.specs.Codes.{ranks_by, code_at, coded}
use Rattle.plan.specs.Contents.{Contents, Sound, at, StandsFor}
use Rattle.model.specs.Units.{GoesBefore}
use Rattle.model.proofs.Asking.{OfPlace, of_place, core_of, candidate_of}
use Rattle.literature.specs.Priorities.{Distance, LessOrFirst, Higher, by_principles}
use Rattle.literature.proofs.Meeting.{Agrees}

-- ---- a choice by codes says what the priorities say

-- the test that numbering makes, as a relation
tells_rank : (x y a b : ℕ) → by_rank (nat_cmp x y) (suc a) (suc b) ≡ true ↔ LessOrFirst x a y b
tells_rank x y a b = (λ e. go e (cases_order x y), back)
  where
    go : by_rank (nat_cmp x y) (suc a) (suc b) ≡ true → (x ≡ y) ⊎ ((x < y) ⊎ (y < x)) → LessOrFirst x a y b
    go e (inl h) = inr (h, grind (arith, nat_tests))
    go e (inr (inl h)) = inl h
    go e (inr (inr h)) = absurd (grind (arith, nat_tests))

    back : LessOrFirst x a y b → by_rank (nat_cmp x y) (suc a) (suc b) ≡ true
    back (inl h) = grind (arith, nat_tests)
    back (inr (e, h)) = grind (arith, nat_tests)

-- the formula gives the distance, and nothing else is one
distance_is : (p : Contents) (i t : ℕ) → 1 ≤ (at p i).period → Distance p i t (distance (at p i).period (at p i).offset t)
distance_is p i t pos =
    let d = distance (at p i).period (at p i).offset t in
    (t + d, distance_next (at p i).period (at p i).offset t pos, omega arith)

distance_only : (p : Contents) (i t d : ℕ) → 1 ≤ (at p i).period → Distance p i t d → distance (at p i).period (at p i).offset t ≡ d
distance_only p i t d pos (e, n, is) = next_distance (at p i).period (at p i).offset t e pos n ∙ sym is

-- the candidates of two places, asked by a code
module _ (p : Contents) (t a b : ℕ) (c : Core) (x y : Candidate) (sx : StandsFor x p (suc a)) (sy : StandsFor y p (suc b))
    (pa : 1 ≤ (at p a).period) (pb : 1 ≤ (at p b).period) where
  ix : OfPlace x p a
  ix = of_place x p a sx

  iy : OfPlace y p b
  iy = of_place y p b sy

  asked : (u v m n : ℕ) → u ≡ m → v ≡ n → by_rank (nat_cmp u v) x.number y.number ≡ true ↔ LessOrFirst m a n b
  asked u v m n e f = rw (sx.number, sy.number, e, f) (tells_rank m n a b)

  by_code : (code : Code) → numbered (ranks_by code) c x y t ≡ true ↔ Higher code p t a b
  by_code FixedPriority =
      let r = asked x.number y.number (suc a) (suc b) sx.number sy.number in
      (λ e. less (r.0 e), λ h. r.1 (inl (omega arith)))
    where
      less : LessOrFirst (suc a) a (suc b) b → a < b
      less (inl h) = omega arith
      less (inr h) = omega arith
  by_code RateMonotonic = asked x.period y.period (at p a).period (at p b).period ix.period iy.period
  by_code EarliestDeadline =
      let m = distance x.period x.offset t in
      let n = distance y.period y.offset t in
      let ex : m ≡ distance (at p a).period (at p a).offset t = rw (ix.period, ix.offset) in
      let ey : n ≡ distance (at p b).period (at p b).offset t = rw (iy.period, iy.offset) in (
        λ r d e u v. (asked m n d e (ex ∙ distance_only p a t d pa u) (ey ∙ distance_only p b t e pb v)).0 r,
        λ h.
            (asked m n (distance (at p a).period (at p a).offset t) (distance (at p b).period (at p b).offset t) ex ey).1
            (h (distance (at p a).period (at p a).offset t) (distance (at p b).period (at p b).offset t) (distance_is p a t pa) (distance_is p b t pb)),
      )

pub principles_agree : (p : Contents) (codes : List Code) → Sound p → Agrees p (coded codes) (by_principles p codes)
principles_agree p codes ok t a b la lb n e = (to, from)
  where
    -- the code of the core is that of the handlers on it
    code_on : (c : Core) → c.number ≡ (at p a).core → code_at codes c ≡ get_or codes ((at p a).core - 1) FixedPriority
    code_on c on = ap (λ (k : ℕ). get_or codes (k - 1) FixedPriority) on

    answer : (c : Core) (x y : Candidate) → c.number ≡ (at p a).core → StandsFor x p (suc a) → StandsFor y p (suc b)
        → coded codes c x y t ≡ true ↔ by_principles p codes t a b
    answer c x y on sx sy =
        subst (λ (code : Code). coded codes c x y t ≡ true ↔ Higher code p t a b) (code_on c on)
        (by_code p t a b c x y sx sy (ok.ranges a la).0 (ok.ranges b lb).0 (code_at codes c))

    to : by_principles p codes t a b → GoesBefore p (coded codes) t a b
    to h =
        let k = core_of p ok a la in
        let x = candidate_of p ok a la in
        let y = candidate_of p ok b lb in
        record {
          core = k.0;
          one = x.0;
          other = y.0;
          on = k.1;
          is_one = x.1;
          is_other = y.1;
          named = (answer k.0 x.0 y.0 k.1 x.1 y.1).1 h;
        }

    from : GoesBefore p (coded codes) t a b → by_principles p codes t a b
    from g = (answer g.core g.one g.other g.on g.is_one g.is_other).0 g.named
