-- How a handler stands at a time, by the remainder of what has gone of its periods.
use Rattle.std.proofs.Common.{◌≡◌, ℕ, ◌+◌, ◌-◌, ◌*◌, ◌/◌, ◌%◌, ◌<◌, ◌≤◌, nat_eq, arith}
use Rattle.std.proofs.lemmas.Bool.Decides.{nat_tests}
use Rattle.std.proofs.lemmas.Nat.Gcd.{dvd_of_mod-eq-zero, mod-eq-zero_of_dvd}
use Rattle.std.proofs.lemmas.Nat.{mod-mul-add}
use Rattle.std.proofs.Math.Nat.{dvd-mul_left}
use Rattle.plan.specs.declared.handlers.Handler.{Handler}
use Rattle.checker.specs.Starting.{TurnAt}

-- from the handler's offset on
module _ (h : Handler) (t : ℕ) (since : h.offset ≤ t) (periodic : 1 ≤ h.period) where
  abbrev gone : ℕ
  gone = (t - h.offset) % h.period

  abbrev whole : ℕ
  whole = (t - h.offset) / h.period

  parts : (t - h.offset ≡ whole * h.period + gone) × (gone < h.period)
  parts = (omega arith, omega arith)

  pub turn_since : TurnAt h t (nat_eq ((t - h.offset) % h.period) 0) (h.period - (t - h.offset) % h.period)
  turn_since = record {
    told = (λ e. (since, dvd_of_mod-eq-zero h.period (grind (arith, nat_tests))), λ b. let none = mod-eq-zero_of_dvd h.period b.1 in grind (arith, nat_tests));
    later = omega (arith, parts.1);
    still = λ k above below b.
        let e : t + k - h.offset ≡ whole * h.period + (gone + k) = omega (arith, parts.0, since) in
        let none : (whole * h.period + (gone + k)) % h.period ≡ 0 = rw e at (mod-eq-zero_of_dvd h.period b.1) in
        let is = mod-mul-add whole h.period (gone + k) (omega (arith, parts.1)) in
        omega (arith, is, none);
    next =
        let e : t + (h.period - gone) - h.offset ≡ (whole + 1) * h.period = omega (arith, parts.0, parts.1, since) in
        (omega arith, rw e (dvd-mul_left h.period (whole + 1)));
  }
