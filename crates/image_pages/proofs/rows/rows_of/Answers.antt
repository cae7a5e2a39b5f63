use Rattle.std.proofs.Common.{◌∙◌, ap, List, get_or, map}
use Rattle.std.specs.List.{range_with_len}
use Rattle.std.proofs.lemmas.List.{get_or_default}
use Rattle.lx_types.specs.Parts.{no_object}
use Rattle.lx_types.specs.declared.object.ObjHead.{ObjHead}
use Rattle.lx_types.specs.declared.parts.Parts.{Parts}
use Rattle.lx_model.specs.Library.{module_of}
use Rattle.lx_model.specs.ModuleBytes.{FixedByte}
use Rattle.module_pages.specs.Placed.{PlacedModule}
use Rattle.image_pages.proofs.PageRows.{row_pushed}
use Rattle.image_pages.proofs.rows.rows_of.Goals as goal

pub loop-index-preserved : goal.loop-index-preserved
loop-index-preserved g c =
    let objects = c.objects-object-items.result.now in
    let i = c.loop-index.index in
    let o : ObjHead = get_or objects i no_object in
    let place = c.in_ok-place.place in
    let same = c.objects-object-items.ensures.list ∙ ap (λ (p : Parts). p.objects) c.module.ensures ∙ ap (λ (lib : List Parts). (module_of lib 0).objects) c.library.ensures in
    let row = c.in_ok-row.ensures ∙ ap (λ (p : PlacedModule). map (FixedByte p.library p.«module» p.bases place) (range_with_len 0 o.size)) c.of-pages.ensures in
    row_pushed c.args.lib.now c.args.bases.now (module_of c.args.lib.now 0).objects objects i place o c.in_ok-row.row c.laid.result c.loop-index.rows.items c.push.new.self.items
    same c.loop-index-test.true (get_or_default objects i no_object o c.loop-index-test.true) c.in_ok-place.ensures row c.laid.ensures c.loop-index.invariant c.in_ok-push.ensures.items
