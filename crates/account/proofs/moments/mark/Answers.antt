use Rattle.std.proofs.Common.{inl, inr, refl, ap, ◌∙◌, length, arith}
use Rattle.std.proofs.lemmas.List.{length-take}
use Rattle.gather.specs.Growth.{Grown}
use Rattle.gather.proofs.Growing.{grown_first, grown_all, grown_new, grown_there, overfull_more}
use Rattle.account.proofs.moments.mark.Goals as goal

pub loop-state-init : goal.loop-state-init
loop-state-init g c = record {
  adds = grown_first (g.M.Table.members c.args.marks.now) c.args.states.now;
  same_room = refl;
}

pub returns-in-Full : goal.returns-in-Full
returns-in-Full g c =
    let inv = c.loop-state.invariant in
    let full = rw c.in-Full.is at c.insert.ensures.inserts in (
      overfull_more _ _ _ _ inv.adds _ c.loop-state-test.true c.state-item.is _ _ full,
      ap length full.2 ∙ full.1 ∙ inv.same_room,
    )

pub loop-state-preserved : goal.loop-state-preserved
loop-state-preserved g c =
    let inv = c.loop-state.invariant in
    let low = c.loop-state-test.true in
    let room = g.M.Table.room c.loop-state.marks in
    let inserts = c.insert.ensures.inserts in record {
      adds = elim c.in-New.is [
        | inl e ↦ grown_new _ _ _ _ inv.adds _ low c.state-item.is room _ (rw e at inserts)
        | inr e ↦ grown_there _ _ _ _ inv.adds _ low c.state-item.is room _ (rw e at inserts)
      ];
      same_room = c.insert.ensures.same_room ∙ inv.same_room;
    }

pub returns : goal.returns
returns g c =
    let was = g.M.Table.members c.args.marks.now in
    let is = g.M.Table.members c.loop-state.marks in
    let all : Grown was c.args.states.now is =
    grown_all _ _ _ _ c.loop-state.invariant.adds c.loop-state-test.false in
    let before = ap length c.rows-before.ensures in
    let after = ap length c.rows.ensures in
    let shorter = length-take (length was) is in (
      all,
      omega (arith, c.saturating_sub.ensures, before, after, ap length all.begins, shorter),
    )
