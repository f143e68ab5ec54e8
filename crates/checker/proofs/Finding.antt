-- What one pass over the handlers finds of a time.
use Rattle.std.proofs.Common.{◌≡◌, ℕ, ◌+◌, ◌*◌, ◌%◌, ◌^◌, ◌<◌, ◌≤◌, ◌≢◌, Bool, true, false, min, sym, ap, refl, ◌∙◌, subst, inl, inr, bit_or, arith, below_more}
use Rattle.std.specs.Int.{bit_at}
use Rattle.std.proofs.lemmas.Bool.{true≢false, cases_lt}
use Rattle.std.proofs.lemmas.Nat.Bits.{bit_at-zero}
use Rattle.plan.specs.declared.handlers.Handler.{Handler}
use Rattle.plan.specs.Contents.{Contents, count, at}
use Rattle.model.specs.Units.{Starts}
use Rattle.checker.specs.Starting.{TurnAt, NobodyStarts, SomebodyStarts, StartsAre, Quiet, NextStart}
use Rattle.checker.specs.Moments.{end_of_clock}
use Rattle.checker.proofs.Words.{BitsTo, bits_none, bits_set, bits_skip, bits_empty}

-- of the first n handlers the word has the bits of those that start at t; the next that starts does so in `quiet` units
pub record FoundTo (p : Contents) (t n word quiet : ℕ) : Type 0 where
  pub starting : BitsTo (Starts p t) n word
  pub later : 1 ≤ quiet
  pub still : (i : ℕ) → i < n → (k : ℕ) → 0 < k → k < quiet → ¬ Starts p (t + k) i
  pub first : n ≡ 0 → quiet ≡ end_of_clock
  pub next : 0 < n → (i : ℕ) × (i < n) × Starts p (t + quiet) i

module _ {p : Contents} {t : ℕ} where
  pub found_none : FoundTo p t 0 0 end_of_clock
  found_none = record {
    starting = bits_none (Starts p t);
    later = omega arith;
    still = λ i lt k above below s. absurd (omega arith);
    first = λ _. refl;
    next = λ lt. absurd (omega arith);
  }

  -- the turn of the handler at the place n, after those before it
  module _ {n word quiet : ℕ} (found : FoundTo p t n word quiet) (few : n < 64)
      (h : Handler) (is : h ≡ at p n) (begins : Bool) (ahead : ℕ) (own : TurnAt h t begins ahead) (soon : ahead ≤ end_of_clock) where
    turn : TurnAt (at p n) t begins ahead
    turn = subst (λ (x : Handler). TurnAt x t begins ahead) is own

    -- at first no handler is as far ahead
    some_before : quiet < ahead → 0 < n
    some_before lt = elim (cases_lt 0 n) [ inl above ↦ above | inr none_yet ↦ absurd (let e = found.first (omega arith) in omega arith) ]

    next : (i : ℕ) × (i < n + 1) × Starts p (t + min quiet ahead) i
    next =
        elim (cases_lt quiet ahead) [
          | inl lt ↦ (let x = found.next (some_before lt) in let e : min quiet ahead ≡ quiet = omega arith in (x.0, omega (arith, x.1), rw e x.2))
          | inr ge ↦ (let e : min quiet ahead ≡ ahead = omega arith in (n, omega arith, rw e turn.next))
        ]

    further : (now : ℕ) → BitsTo (Starts p t) (n + 1) now → FoundTo p t (n + 1) now (min quiet ahead)
    further now starting = record {
      starting = starting;
      later = omega (arith, found.later, turn.later);
      still = below_more (λ i. (k : ℕ) → 0 < k → k < min quiet ahead → ¬ Starts p (t + k) i) n
          (λ i lt k above below. found.still i lt k above (omega arith)) (λ k above below. turn.still k above (omega arith));
      first = λ e. absurd (omega arith);
      next = λ _. next;
    }

    pub found_starts : begins ≡ true → FoundTo p t (n + 1) (bit_or word (1 * 2 ^ n % 2 ^ 64)) (min quiet ahead)
    found_starts e = further _ (bits_set (Starts p t) n word few found.starting (turn.told.0 e))

    pub found_rests : begins ≡ false → FoundTo p t (n + 1) word (min quiet ahead)
    found_rests e = further _ (bits_skip (Starts p t) n word few found.starting (λ s. true≢false (sym (turn.told.1 s) ∙ e)))

  -- all have had their turn
  module _ {word quiet : ℕ} (found : FoundTo p t (count p) word quiet) where
    pub found_starters : StartsAre p t word
    found_starters = record { bits = found.starting.bits }

    pub found_still : Quiet p t quiet
    found_still k above below i lt = found.still i lt k above below

    pub found_next : NextStart p t quiet
    found_next lt nobody = let x = found.next lt in nobody x.0 x.1 x.2

-- ---- what the word tells

module _ {p : Contents} {t word : ℕ} (are : StartsAre p t word) where
  pub starters_none : word ≡ 0 → NobodyStarts p t
  starters_none e i known starts = omega (arith, (are.bits i).1 (known, starts), ap (λ n. bit_at n i) e, bit_at-zero i)

  pub starters_some : word ≢ 0 → SomebodyStarts p t
  starters_some ne nobody = ne (bits_empty word (λ i b. let h = (are.bits i).0 b in nobody i h.0 h.1))

pub nobody_word : {p : Contents} {t : ℕ} → NobodyStarts p t → StartsAre p t 0
nobody_word nobody = record { bits = λ i. (λ b. absurd (omega (arith, b, bit_at-zero i)), λ h. absurd (nobody i h.0 h.1)) }
