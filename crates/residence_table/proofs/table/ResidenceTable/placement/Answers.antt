use Rattle.std.proofs.Common.{sym, subst}
use Rattle.residence_table.specs.Residences.{residences}
use Rattle.residence_table.specs.Called.{IsAt}
use Rattle.residence_table.proofs.Resident.{residence_begun, at_written}
use Rattle.residence_table.proofs.table.ResidenceTable.placement.Goals as goal

pub returns-clause-state : goal.returns-clause-state
returns-clause-state g c = λ e same.
    at_written c.found.result _ (subst (IsAt c.found.result) (sym (residence_begun e (residences c.args.self.now) c.args.fresh.now c.args.m same)) c.found.ensures)
