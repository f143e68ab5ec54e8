-- Different combinations of chosen times step to different states: who runs does not depend on how long the chosen times are.
use Rattle.std.proofs.Common.{◌≡◌, ℕ, ◌<◌, ◌≤◌, sym, ◌∙◌, subst, arith, ext_get_or}
use native.Mathlib.Decide.{dec_lt}
use Rattle.policy.specs.Laws.{Choice}
use Rattle.plan.specs.Contents.{Contents, Sound, count, at}
use Rattle.model.specs.Units.{State, left, Starts, Started, Ready, Running}
use Rattle.model.specs.Theorems.{ChoicesTell}
use Rattle.model.proofs.Deciding.{starts_decided, running_decided}

module _ (p : Contents) (ok : Sound p) (t : ℕ) (s : State) where
  pub zero_same : (u w : State) → Started p t s u → Started p t s w → (i : ℕ) → i < count p → left u i ≡ 0 → left w i ≡ 0
  zero_same u w a b i h e = go (starts_decided p t i)
    where
      go : Dec (Starts p t i) → left w i ≡ 0
      go (yes y) =
          let some : 1 ≤ (at p i).shortest = (ok.ranges i h).1 in
          let low : (at p i).shortest ≤ left u i = (a.fresh i h y).0 in
          absurd (omega arith)
      go (no n) = b.same i h n ∙ sym (a.same i h n) ∙ e

  ready_same : (u w : State) → Started p t s u → Started p t s w → (i : ℕ) → i < count p → Ready p u i → Ready p w i
  ready_same u w a b i h r =
      record {
        working = go (dec_lt 0 (left w i));
        waits = λ c j. zero_same u w a b c (ok.inside c i j).0 (r.waits c j);
      }
    where
      go : Dec (0 < left w i) → 0 < left w i
      go (yes l) = l
      go (no l) = let some : 0 < left u i = r.working in absurd (omega (arith, zero_same w u b a i h (omega arith)))

  pub running_same : (D : Choice) (u w : State) → Started p t s u → Started p t s w → (i : ℕ) → i < count p → Running p D t u i → Running p D t w i
  running_same D u w a b i h r =
      record {
        ready = ready_same u w a b i h r.ready;
        first = λ j k n c y. r.first j k n c (ready_same w u b a j k y);
      }

pub choices_tell : ChoicesTell
choices_tell p D ok t s u w v a b uv wv =
    ext_get_or 0 u w (a.long ∙ sym b.long)
    (λ i l. let h : i < count p = subst (λ (n : ℕ). i < n) a.long l in here i h (running_decided p D ok t u i h))
  where
    here : (i : ℕ) → i < count p → Dec (Running p D t u i) → left u i ≡ left w i
    here i h (yes r) = uv.ran i h r ∙ sym (wv.ran i h (running_same p ok t s D u w a b i h r))
    here i h (no n) = sym (uv.waited i h n) ∙ wv.waited i h (λ r. n (running_same p ok t s D w u b a i h r))
