use Rattle.std.proofs.Common.{ap, sym, ◌∙◌}
use Rattle.std.specs.Option.{option_copied}
use Rattle.residence_table.proofs.Resident.{at_stay, at_beginning}
use Rattle.residence_table.proofs.table.ResidenceTable.found.Goals as goal

pub returns-in-Some : goal.returns-in-Some
returns-in-Some g c =
    at_stay c.args.self.now c.args.fresh.now c.args.m _ c.in-Some.row.now (sym c.find.ensures.found ∙ ap option_copied c.in-Some.is) c.serial.ensures
    (c.as_slice.ensures ∙ c.bases.ensures)

pub returns-in-None : goal.returns-in-None
returns-in-None g c = at_beginning c.args.self.now c.args.fresh.now c.args.m _ (sym c.find.ensures.found ∙ ap option_copied c.in-None.is) c.beginning.ensures
