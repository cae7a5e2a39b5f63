use Rattle.std.proofs.Common.{◌≡◌, ◌++◌, List, true, false, sym, subst, ap, ◌∙◌}
use Rattle.std.proofs.lemmas.List.{append-nil}
use Rattle.lx_types.specs.Parts.{is_library_of}
use Rattle.lx_types.specs.declared.object.ObjHead.{ObjHead}
use Rattle.lx_types.specs.declared.parts.Parts.{Parts}
use Rattle.base_pick.specs.Places.{shared_arena}
use Rattle.load_model.specs.Modules.{is_library, objects_of}
use Rattle.load_model.specs.Entering.{range_of}
use Rattle.load_model.specs.ResidenceBases.{StandIn}
use Rattle.std.specs.Prelude.{map, zip}
use Rattle.residence_table.proofs.Placed.{stands_shared, ranges_shared, ranges_private}
use Rattle.residence_table.proofs.placing.take.Goals as goal

pub take_objects-requires : goal.take_objects-requires
unfolding is_library objects_of
take_objects-requires c =
    let lib = c.args.lib.now in
    let is : is_library lib c.args.m ≡ true = ap is_library_of (sym c.module-module.ensures) ∙ sym c.is_library.ensures ∙ c.if-is_library.true in
    let objects = c.objects.ensures.list ∙ ap (λ (p : Parts). p.objects) c.module-module.ensures in
    subst (λ (os : List ObjHead). StandIn shared_arena os c.args.bases.now) (sym objects) (stands_shared lib c.args.m c.args.bases.now is c.requires.stands)

pub returns-in_ok-take_objects : goal.returns-in_ok-take_objects
unfolding is_library objects_of
returns-in_ok-take_objects c =
    let lib = c.args.lib.now in
    let is : is_library lib c.args.m ≡ true = ap is_library_of (sym c.module-module.ensures) ∙ sym c.is_library.ensures ∙ c.if-is_library.true in
    let objects = c.objects.ensures.list ∙ ap (λ (p : Parts). p.objects) c.module-module.ensures in
    c.in_ok-take_objects.ensures ∙ ap (λ os. c.args.occupied.now ++ map range_of (zip os c.args.bases.now)) objects
    ∙ ap (λ rs. c.args.occupied.now ++ rs) (sym (ranges_shared lib c.args.m c.args.bases.now is))

pub returns-else-is_library : goal.returns-else-is_library
unfolding is_library objects_of
returns-else-is_library c =
    let lib = c.args.lib.now in
    let is : is_library lib c.args.m ≡ false = ap is_library_of (sym c.module-module.ensures) ∙ sym c.is_library.ensures ∙ c.if-is_library.false in
    sym (append-nil c.args.occupied.now) ∙ ap (λ rs. c.args.occupied.now ++ rs) (sym (ranges_private lib c.args.m c.args.bases.now is))
