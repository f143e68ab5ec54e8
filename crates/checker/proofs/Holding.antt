-- Rows that hold states: for each state there is one row.
use Rattle.std.proofs.Common.{◌≡◌, ℕ, ◌<◌, List, [], ◌∷◌, ◌++◌, map, length, get_or, take, drop, sym, ap, ◌∙◌, subst, arith}
use Rattle.std.specs.List.{Contains as Has}
use Rattle.std.proofs.lemmas.List.{take-append-drop, length-map, get_or-map}
use Rattle.std.proofs.lemmas.List.Elements.{Contains-get_or}
use Rattle.gather.specs.Levels.{Once}
use Rattle.gather.proofs.Counting.{has_here}
use Rattle.policy.specs.Laws.{Choice}
use Rattle.plan.specs.Contents.{Contents, count}
use Rattle.model.specs.Runs.{StateAt}
use Rattle.model.proofs.Lists.{has_only}
use Rattle.model.specs.declared.states.State.{State}
use Rattle.model.specs.Memory.{times}
use Rattle.model.specs.Same.{state_one}
use Rattle.checker.specs.Fronts.{Front}
use Rattle.model.specs.Memory.{Holds}

-- rows with the same times left of the handlers, and the same in the other places, are one
pub row_one : (p : Contents) (x y : State) → times p x ≡ times p y → drop (count p) x.left ≡ drop (count p) y.left → x ≡ y
row_one p x y e rest =
    let n = count p in
    state_one x y (sym (take-append-drop n x.left) ∙ ap (λ l. l ++ drop n x.left) e ∙ ap (λ l. take n y.left ++ l) rest ∙ take-append-drop n y.left)

module _ (p : Contents) where
  pub holds_one : (x y : State) (v w : List ℕ) → Holds p x v → Holds p y w → times p x ≡ times p y → x ≡ y
  holds_one x y v w a b e = row_one p x y e (a.blank ∙ sym b.blank)

  -- different rows hold different states
  module _ (rows : List State) (d : State) (hold : (x : State) → Has rows x → (v : List ℕ) × Holds p x v) where
    pub times_once : Once rows → Once (map (times p) rows)
    times_once once i j e lt end same =
        let jl : j < length rows = omega (arith, length-map rows (times p)) in
        let il : i < length rows = omega (arith, jl) in
        let x = get_or rows i d in
        let y = get_or rows j d in
        let hx = hold x (Contains-get_or rows i d il) in
        let hy = hold y (Contains-get_or rows j d jl) in
        let left : times p x ≡ times p y = sym (get_or-map (times p) rows i d e il) ∙ same ∙ get_or-map (times p) rows j d e jl in
        once i j d lt jl (holds_one x y hx.0 hy.0 hx.1 hy.1 left)

-- where there is one state, a row that holds it is the front
pub front_one : (p : Contents) (D : Choice) (t : ℕ) (x : State) (v : List ℕ) → Holds p x v → StateAt p D t v → ((w : List ℕ) → StateAt p D t w → v ≡ w) → Front p D t (x ∷ [])
front_one p D t x v holds at one = record {
  each = λ w a. (x, has_here x [], subst (Holds p x) (one w a) holds);
  only = λ y h. (v, at, subst (λ (s : State). Holds p s v) (has_only x y h) holds);
}
