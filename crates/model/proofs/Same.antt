-- Two verdicts are equal by `==` exactly where they are the same, and so are two kinds of rows.
use Rattle.std.proofs.Common.{◌≡◌, ℕ, true≢false, refl, sym, ap₂}
use Rattle.std.specs.Prelude.{◌==◌, ◌&&◌, Decides}
use Rattle.std.proofs.lemmas.Bool.Decides.{Decides-eqb, Decides-and, Decides-like}
use Rattle.gather.specs.Levels.{Tells}
use Rattle.model.specs.declared.verdicts.Rows.{Rows}
use Rattle.model.specs.declared.verdicts.Rows.TheVariants.{Working, Marks}
use Rattle.model.specs.declared.verdicts.Verdict.TheVariants.{Kept, Missed, RowsShort}
use Rattle.model.specs.contracts.verdicts.VerdictPartialEq.TheImpl as verdict_eq
use Rattle.model.specs.contracts.verdicts.RowsPartialEq.TheImpl as rows_eq

pub rows_told : Tells rows_eq.ghosts.eq
rows_told Working Working = (λ t. refl, λ e. refl)
rows_told Marks Marks = (λ t. refl, λ e. refl)
rows_told Working Marks = (λ t. absurd (true≢false (sym t)), λ e. cc)
rows_told Marks Working = (λ t. absurd (true≢false (sym t)), λ e. cc)

both : (m n i j : ℕ) → Decides ((m == i) && (n == j)) ((m ≡ i) × (n ≡ j))
both m n i j = Decides-and (m == i) (n == j) (Decides-eqb m i) (Decides-eqb n j)

kept_same : (m n i j : ℕ) → Decides ((m == i) && (n == j)) (Kept m n ≡ Kept i j)
kept_same m n i j =
    Decides-like ((m == i) && (n == j)) (λ q. ap₂ Kept q.0 q.1) (λ e. (cc, cc)) (both m n i j)

missed_same : (m n i j : ℕ) → Decides ((m == i) && (n == j)) (Missed m n ≡ Missed i j)
missed_same m n i j =
    Decides-like ((m == i) && (n == j)) (λ q. ap₂ Missed q.0 q.1) (λ e. (cc, cc)) (both m n i j)

short_same : (rows : Rows) (m i : ℕ) → Decides (m == i) (RowsShort rows m ≡ RowsShort rows i)
short_same rows m i = Decides-like (m == i) (λ q. ap₂ RowsShort refl q) (λ e. cc) (Decides-eqb m i)

pub verdict_told : Tells verdict_eq.ghosts.eq
verdict_told (Kept m n) (Kept i j) = kept_same m n i j
verdict_told (Missed m n) (Missed i j) = missed_same m n i j
verdict_told (RowsShort Working m) (RowsShort Working i) = short_same Working m i
verdict_told (RowsShort Marks m) (RowsShort Marks i) = short_same Marks m i
verdict_told (RowsShort Working m) (RowsShort Marks i) = (λ t. absurd (true≢false (sym t)), λ e. cc)
verdict_told (RowsShort Marks m) (RowsShort Working i) = (λ t. absurd (true≢false (sym t)), λ e. cc)
verdict_told (Kept m n) (Missed i j) = (λ t. absurd (true≢false (sym t)), λ e. cc)
verdict_told (Kept m n) (RowsShort rows i) = (λ t. absurd (true≢false (sym t)), λ e. cc)
verdict_told (Missed m n) (Kept i j) = (λ t. absurd (true≢false (sym t)), λ e. cc)
verdict_told (Missed m n) (RowsShort rows i) = (λ t. absurd (true≢false (sym t)), λ e. cc)
verdict_told (RowsShort rows m) (Kept i j) = (λ t. absurd (true≢false (sym t)), λ e. cc)
verdict_told (RowsShort rows m) (Missed i j) = (λ t. absurd (true≢false (sym t)), λ e. cc)
