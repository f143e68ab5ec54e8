-- Indexed rows as tables: which of them stay what they were.
use Rattle.std.specs.Prelude.{◌≡◌, ◌≤◌, length, take, drop}
use Rattle.std.proofs.Common.{refl, ◌∙◌, arith}
use Rattle.std.proofs.lemmas.List.{length-take-le}
use Rattle.gather.specs.declared.indexed.Indexed.{Indexed}
use Rattle.gather.specs.declared.Element.{Ghosts as Filed}
use Rattle.std.specs.declared.cmp.PartialEq.{Ghosts as Equals}
use Rattle.gather.specs.Lents.{drop_further}

-- the same rows, none of them written, with no element
pub record Emptied {T : Type 0} {E : Filed T} {P : Equals T} (s t : Indexed T E P) : Type 0 where
  pub lent : t.rows.ghost_name ≡ s.rows.ghost_name
  pub rows : t.rows.now ≡ s.rows.now
  pub none : t.count ≡ 0

-- the same rows, and no fewer elements; those past the elements are what they were
pub record Extended {T : Type 0} {E : Filed T} {P : Equals T} (s t : Indexed T E P) : Type 0 where
  pub lent : t.rows.ghost_name ≡ s.rows.ghost_name
  pub whole : length t.rows.now ≡ length s.rows.now
  pub more : s.count ≤ t.count
  pub rest : drop t.count t.rows.now ≡ drop t.count s.rows.now

module _ {T : Type 0} {E : Filed T} {P : Equals T} where
  pub few_elements : (s : Indexed T E P) → length (take s.count s.rows.now) ≤ length s.rows.now
  few_elements s = omega (arith, length-take-le s.count s.rows.now s.few)

  pub extended_still : (s : Indexed T E P) → Extended s s
  extended_still s = record { lent = refl; whole = refl; more = omega arith; rest = refl }

  pub extended_further : (s t u : Indexed T E P) → Extended s t → Extended t u → Extended s u
  extended_further s t u x y = record {
    lent = y.lent ∙ x.lent;
    whole = y.whole ∙ x.whole;
    more = omega (arith, x.more, y.more);
    rest = y.rest ∙ drop_further t.count u.count t.rows.now s.rows.now y.more x.rest;
  }
