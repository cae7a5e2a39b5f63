use Rattle.std.proofs.Common.{ap, ◌∙◌, sym, refl}
use Rattle.load_model.specs.Modules.{bases_for}
use Rattle.base_pick.specs.Places.{places_of}
use Rattle.residence_table.proofs.placing.pick_for.Goals as goal

pub returns-in-Ok : goal.returns-in-Ok
unfolding bases_for
returns-in-Ok c = ap (places_of c.args.occupied.now) (sym c.module.ensures) ∙ c.in-Ok.ensures

pub returns-in-Err-Said : goal.returns-in-Err-Said
unfolding bases_for
returns-in-Err-Said c = (refl, ap (places_of c.args.occupied.now) (sym c.module.ensures) ∙ rw c.in-Err-Said.field-0-is at c.in-Err-Said.ensures)
