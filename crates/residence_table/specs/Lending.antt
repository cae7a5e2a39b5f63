-- What a table ends as, where what is kept beside a residence is lent.
use Rattle.std.specs.Borrow.{Lends, Fml, RattleType, MutBor}
use Rattle.residence_table.specs.declared.residence_row.ResidenceRow.{ResidenceRow}
use Rattle.residence_table.specs.contracts.residence_row.ResidenceRow.{the_row}

module _ (T : RattleType) (s : MutBor (ResidenceRow T.Denot)) where
  -- the residence is as it was, and beside it is what was left after r
  abbrev pub lends_beside : MutBor T.Denot → Fml
  lends_beside r = Lends (the_row T) T s r (λ w. (s.now.0, w))
