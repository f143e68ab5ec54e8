use Rattle.std.proofs.Common.{ℕ, ◌-◌, List, flat_map, sym, ap}
use Rattle.std.specs.Prelude.{slice_index}
use Rattle.std.specs.List.{range_with_len}
use Rattle.plantext.specs.Texts.{core_line}
use Rattle.plantext.proofs.Adding.{room_here, added_next}
use Rattle.plantext.proofs.texts.printing.add_cores.Goals as goal

pub add_core-requires : goal.add_core-requires
add_core-requires c =
    let line : ℕ → List ℕ = λ n. core_line n (slice_index c.args.codes.now (n - 1)) in
    room_here line 8 _ _ _ (ap (λ n. flat_map line (range_with_len 1 n)) (sym c.told-codes)) c.requires _ _ c.loop-core.invariant c.loop-core-test.true

pub loop-core-preserved : goal.loop-core-preserved
loop-core-preserved c = added_next _ 8 _ _ _ _ c.loop-core.invariant c.add_core.ensures c.loop-core-test.true
