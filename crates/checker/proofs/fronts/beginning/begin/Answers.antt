use Rattle.std.proofs.Common.{[], ◌∷◌, ◌++◌, length, inl, inr, ap, sym, ◌∙◌}
use Rattle.gather.specs.declared.tables.Inserted.TheVariants.{New, There, Full}
use Rattle.gather.specs.Tables.{Inserts}
use Rattle.model.proofs.Lists.{has_none}
use Rattle.checker.proofs.First.{first_front, first_outnumbers}
use Rattle.checker.proofs.fronts.beginning.begin.Goals as goal

pub returns-in-New : goal.returns-in-New
returns-in-New g c = record {
  begins = λ p D ok. elim c.in-New.is [
    | inl e ↦ (let i : Inserts (g.W.Table.room c.clear.new.self) (g.W.Table.members c.clear.new.self) c.new.result New (g.W.Table.members c.insert.new.self) = rw e at c.insert.ensures.inserts in
        first_front p D ok c.new.result (c.new.ensures.begins p ok) c.new.ensures.blank _ (i.2 ∙ ap (λ l. l ++ c.new.result ∷ []) c.clear.ensures.none))
    | inr e ↦ (let i : Inserts (g.W.Table.room c.clear.new.self) (g.W.Table.members c.clear.new.self) c.new.result There (g.W.Table.members c.insert.new.self) = rw e at c.insert.ensures.inserts in
        absurd (has_none c.new.result (rw c.clear.ensures.none at i.0)))
  ];
  same_room = c.insert.ensures.same_room ∙ c.clear.ensures.same_room;
  frame = (_, c.clear.ensures.frame, c.insert.ensures.frame);
}

pub returns-in-Full-clause-begins : goal.returns-in-Full-clause-begins
returns-in-Full-clause-begins g c = λ p D ok.
    let i : Inserts (g.W.Table.room c.clear.new.self) (g.W.Table.members c.clear.new.self) c.new.result Full (g.W.Table.members c.insert.new.self) = rw c.in-Full.is at c.insert.ensures.inserts in
    first_outnumbers p D ok _ (sym (ap length c.clear.ensures.none) ∙ i.1 ∙ c.clear.ensures.same_room)
