use Rattle.std.proofs.Common.{rules}
use Rattle.obj_types.specs.declared.object.ObjModule.{ObjModule}
use Rattle.link_model.specs.Fixups.{standing_in}
use Rattle.link_place.specs.Fixed.{fixup_at}
use Rattle.link_place.proofs.Judging.{none-added}
use Rattle.link_place.proofs.fixups.ModuleFixups.add_to.Goals as goal

pub returns-then-is_empty : goal.returns-then-is_empty
returns-then-is_empty c =
    let m : ObjModule = c.args.self.now.object.now in
    none-added (λ f. fixup_at c.args.self.now.places.now c.args.self.now.syms.now c.args.self.now.number m f (standing_in m f)) m.fixes c.args.found.now.items (search rules)
