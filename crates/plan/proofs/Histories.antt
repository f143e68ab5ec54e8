-- The n-th accepted register answers n.
use Rattle.std.proofs.Common.{◌≡◌, ◌+◌, ◌-◌, List, [], ◌∷◌, ◌++◌, Ok, Err, sym, refl, ap, ◌∙◌, arith}
use Rattle.std.proofs.lemmas.List.{length_push, length-set}
use Rattle.plan.specs.Contents.{Contents, count, at}
use Rattle.plan.specs.Calls.{seated}
use Rattle.plan.specs.Histories.{Call, registered, joined, reseated, Makes, After, new, then, registers_one, accepted}

accepted_push : (calls : List Call) (call : Call) → accepted (calls ++ call ∷ []) ≡ accepted calls + registers_one call
accepted_push [] call = omega arith
accepted_push (c ∷ calls) call = omega (arith, accepted_push calls call)

count_after : (k next : Contents) (call : Call) → Makes k call next → count next ≡ count k + registers_one call
count_after k next (registered h (Ok n)) m = ap count m.1.leaves ∙ length_push k.handlers h
count_after k next (registered h (Err e)) m = omega (arith, ap count m.1.leaves)
count_after k next (joined a b (Ok u)) m = omega (arith, ap count m.leaves)
count_after k next (joined a b (Err e)) m = omega (arith, ap count m.leaves)
count_after k next (reseated n c (Ok u)) m = let e = ap count m.leaves in omega (arith, e, length-set k.handlers (n - 1) (seated (at k (n - 1)) c))
count_after k next (reseated n c (Err e)) m = omega (arith, ap count m.leaves)

pub accepted_count : (calls : List Call) (k : Contents) → After calls k → accepted calls ≡ count k
accepted_count _ _ new = refl
accepted_count _ _ (then {calls} {k} {next} call before made) =
    accepted_push calls call ∙ ap (λ n. n + registers_one call) (accepted_count calls k before) ∙ sym (count_after k next call made)
