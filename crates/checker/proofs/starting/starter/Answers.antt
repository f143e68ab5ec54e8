use Rattle.std.proofs.Common.{◌≡◌, ℕ, ◌-◌, ◌≤◌, Bool, true, false, Decides, Option, Some, None, is_some, IfSome, MatchOption, refl, sym, ◌∙◌, rules}
use Prim.Native.Nat.{◌∣◌}
use denote.Ref.{Bor}
use Rattle.std.specs.Bool.{then_some}
use Rattle.std.proofs.lemmas.Bool.{true≢false}
use Rattle.plan.specs.declared.handlers.Handler.{Handler}
use Rattle.plan.specs.Contents.{Contents, contents, at, known, Known}
use Rattle.model.specs.Units.{Starts}
use Rattle.checker.proofs.Reading.{known_from, known_test}
use Rattle.checker.proofs.starting.starter.Goals as goal

module _ (p : Contents) (n t : ℕ) (asked : Bor Handler → Bool → Type 0)
    (told : (x : Bor Handler) (b : Bool) → asked x b → Decides b ((x.now.offset ≤ t) × (x.now.period ∣ t - x.now.offset))) where
  -- what `filter` keeps, by what the closure answers
  kept : (o r : Option Handler) → is_some o ≡ known p n → IfSome o (λ h. h ≡ at p (n - 1))
      → MatchOption o (r ≡ None) (λ h. (b : Bool) × ((x : Bor Handler) × asked x b × (x.now ≡ h)) × (r ≡ then_some b h))
      → MatchOption r (Known p n × Starts p t (n - 1) → ⊥) (λ h. Known p n × Starts p t (n - 1) × (h ≡ at p (n - 1)))
  kept None r test value e = rw e (λ s. true≢false (sym (test ∙ known_test p n s.0)))
  kept (Some h) r test value (true, (x, k, is), e) = rw e (known_from p n test, rw (is, value) at (told x true k).0 refl, value)
  kept (Some h) r test value (false, (x, k, is), e) = rw e (λ s. true≢false (sym ((told x false k).1 (rw (is, value) s.1))))

pub returns : goal.returns
returns c =
    kept (contents c.args.plan.now) c.args.number c.args.t _ (λ x b k. search rules) c.handler.result c.filter.result c.handler.ensures.test
    c.handler.ensures.value c.filter.ensures
