use Rattle.std.proofs.Common.{sym, subst}
use Rattle.load_model.specs.ResidenceBases.{Stands}
use Rattle.residence_table.proofs.Placed.{module_stands}
use Rattle.residence_table.proofs.placing.place_one.Goals as goal

pub take-requires-clause-stands : goal.take-requires-clause-stands
take-requires-clause-stands c =
    subst (Stands c.args.lib.now c.args.m) (sym c.deref.ensures.value) (module_stands c.args.lib.now c.args.occupied.now c.args.m c.in_ok-bases.bases.items c.in_ok-bases.ensures)
