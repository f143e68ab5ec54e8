-- A plan whose file is as long as any.
use Rattle.std.proofs.Common.{◌≡◌, ℕ, ◌<◌, true, nat_lt, ◌&&◌, List, replicate, ltb-true, refl, sym, ap, ◌∙◌, lt_trans, lt_irrefl, arith}
use Rattle.std.proofs.lemmas.Bool.{and_parts}
use Rattle.std.proofs.lemmas.List.{get_or-replicate}
use Rattle.policy.specs.declared.codes.Code.TheVariants.{FixedPriority}
use Rattle.plan.specs.declared.handlers.Handler.{Handler}
use Rattle.plan.specs.Rows.{blank, FitsWords}
use Rattle.plan.specs.Joins.{Chain, one, more}
use Rattle.plan.specs.Contents.{Contents, Sound, at}
use Rattle.planfile.specs.Theorems.{AreCodes, LongestFile}
use Rattle.planfile.proofs.Lengths.{none_longer}

-- 64 handlers like this one
abbrev least_handler : Handler
least_handler = record { period = 1; offset = 0; shortest = 1; longest = 1; core = 1 }

-- each joined before all behind it
abbrev fullest : Contents
fullest = record { handlers = replicate 64 least_handler; joined = λ a b. nat_lt a b && nat_lt b 64 }

abbrev ones : List ℕ
ones = replicate 8 1

rises : (a b : ℕ) → fullest.joined a b ≡ true → (a < b) × (b < 64)
rises a b j = let q = and_parts (nat_lt a b) (nat_lt b 64) j in (ltb-true a b q.0, ltb-true b 64 q.1)

chain_rises : {a b : ℕ} → Chain fullest.joined a b → a < b
chain_rises {a} {b} (one j) = (rises a b j).0
chain_rises (more {a} {b} {c} j rest) = lt_trans (rises a b j).0 (chain_rises rest)

alike : (i : ℕ) → i < 64 → at fullest i ≡ least_handler
alike i l = get_or-replicate 64 i least_handler blank l

joined_inside : (a b : ℕ) → fullest.joined a b ≡ true → (a < 64) × (b < 64)
joined_inside a b j = let q = rises a b j in (lt_trans q.0 q.1, q.1)

same_field : (f : Handler → ℕ) (a b : ℕ) → fullest.joined a b ≡ true → f (at fullest a) ≡ f (at fullest b)
same_field f a b j = let q = joined_inside a b j in ap f (alike a q.0 ∙ sym (alike b q.1))

fullest_sound : Sound fullest
fullest_sound = record {
  few = omega arith;
  ranges = λ i l.
      let fits : FitsWords least_handler = (omega arith, omega arith, omega arith, omega arith) in
      rw (alike i l) (omega arith, omega arith, omega arith, omega arith, omega arith, fits);
  short = omega arith;
  inside = joined_inside;
  periods = same_field (λ h. h.period);
  offsets = same_field (λ h. h.offset);
  no_circle = λ a c. lt_irrefl a (chain_rises c);
}

ones_codes : AreCodes ones
ones_codes = record {
  eight = refl;
  each = λ c h. (FixedPriority, sym (get_or-replicate 8 h.0 1 c h.1) ∙ h.2);
}

pub longest_file : LongestFile
longest_file = record { none_longer = λ k codes sound are. none_longer k sound codes are; one_as_long = (fullest, ones, fullest_sound, ones_codes, refl) }
