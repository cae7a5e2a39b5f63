-- What a table ends as, where what is kept beside a residence is lent.
use Rattle.std.specs.Prelude.{ℕ, List, slice_set, slice_get, Option, Some, None}
use Rattle.std.specs.Borrow.{Lends, Fml, RattleType, MutBor}
use Rattle.load_model.specs.State.{Residence}
use Rattle.residence_table.specs.declared.table.ResidenceTable.{ResidenceTable}
use Rattle.residence_table.specs.contracts.table.ResidenceTable.{the_row}

-- a pair with another second part
abbrev pub beside_set : {T : Type 0} → Option (Residence × T) → T → List (Residence × T) → ℕ → List (Residence × T)
beside_set (Some s) w rows place = slice_set rows place (s.0, w)
beside_set None w rows place = rows

-- the table with another thing beside the residence at a place
abbrev pub with_beside : {T : Type 0} → List (Residence × T) → ℕ → T → List (Residence × T)
with_beside rows place w = beside_set (slice_get rows place) w rows place

module _ (T : RattleType) (s : MutBor (ResidenceTable T.Denot)) (place : ℕ) where
  -- the residences are as they were, and beside the one at the place is what was left after r
  abbrev pub lends_beside_at : MutBor T.Denot → Fml
  lends_beside_at r = Lends (the_row T) T s r (with_beside s.now place)
