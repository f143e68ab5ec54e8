use Rattle.std.proofs.Common.{◌≡◌, w64, ◌^◌, ◌<◌, ◌≢◌, true, true≢false, get_or, sym, ap, ◌∙◌, inl, inr, arith}
use Rattle.std.specs.Int.{bit_at}
use Rattle.std.proofs.lemmas.Nat.Bits.{bit_at-trailing_zeros}
use Rattle.checker.proofs.Words.{fewer, still, others}
use Rattle.checker.proofs.priorities.serving.all_done.Goals as goal

pub returns-then-state-place-gt0 : goal.returns-then-state-place-gt0
returns-then-state-place-gt0 c =
    let below : c.loop-rest.rest < 2 ^ 64 = omega arith in
    let h = bit_at-trailing_zeros w64 c.loop-rest.rest (omega arith) below in
    (λ e. absurd (true≢false (sym e)), λ done. absurd (omega (arith, c.if-state-place-gt0.true, done _ (c.loop-rest.invariant.some _ h.1))))

pub loop-rest-smaller : goal.loop-rest-smaller
loop-rest-smaller c = let below : c.loop-rest.rest < 2 ^ 64 = omega arith in fewer c.loop-rest.rest below (omega arith)

pub loop-rest-preserved : goal.loop-rest-preserved
loop-rest-preserved c =
    let word = c.loop-rest.rest in
    let fits : word < 2 ^ 64 = omega arith in
    let some : 0 < word = omega arith in
    record {
      some = λ a h. c.loop-rest.invariant.some a (still word fits some a h);
      others = λ a h.
          elim (c.loop-rest.invariant.others a h) [
            | inl b ↦
                elim (others word fits some a b) [
                  | inl x ↦ inl x
                  | inr e ↦ inr (rw e (omega (arith, c.if-state-place-gt0.false)))
                ]
            | inr z ↦ inr z
          ];
    }
