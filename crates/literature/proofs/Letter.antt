-- The two readings of finished differ before anything happened.
use Rattle.std.proofs.Common.{◌≡◌, ℕ, ◌+◌, ◌-◌, ◌*◌, [], take, ap, ◌∙◌, arith}
use Rattle.plan.specs.Contents.{Contents, at}
use Rattle.std.proofs.lemmas.List.{take_all, drop_all}
use Rattle.literature.specs.Systems.{executed, nth_period}
use Rattle.literature.specs.Agreement.{LetterDiffers}

nothing_yet : (p : Contents) (τ n : ℕ) → executed p (nth_period p [] τ n) τ ≡ 0
nothing_yet p τ n =
    ap (λ h. executed p h τ)
    (ap (take (at p τ).period) (drop_all ((at p τ).offset + (n - 1) * (at p τ).period) [] (omega arith)) ∙ take_all (at p τ).period [] (omega arith))

pub letter_differs : LetterDiffers
letter_differs p τ n needs some = (nothing_yet p τ n, λ e. omega (arith, nothing_yet p τ n))
