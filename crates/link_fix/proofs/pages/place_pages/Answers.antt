use Rattle.std.proofs.Common.{map, subst, List}
use Rattle.obj_types.specs.declared.symbol.Imp.{Imp}
use Rattle.link_fix.specs.declared.fixup.Fixup.{Fixup}
use Rattle.link_fix.specs.Shown.{shown, piece_shown}
use Rattle.link_fix.specs.Tables.{ArePairs, pairs_among}
use Rattle.link_fix.proofs.LinkPages.{live-accepted, rows-with}
use Rattle.link_fix.proofs.PagesMade.{pages-are}
use Rattle.link_fix.proofs.pages.place_pages.Goals as goal

pub place_live-requires : goal.place_live-requires
place_live-requires c = live-accepted c.args.fixups.items c.in_ok-live.live.items c.requires c.in_ok-live.ensures

pub returns : goal.returns
returns c = λ l of.
    let live : List Fixup = c.in_ok-live.live.items in
    let imports : List Imp = c.args.imports.now in
    pages-are l c.args.pieces.now c.args.fixups.items c.args.objects.now imports live c.in_ok-tables.tables c.in_ok-pages.pages c.in_ok-fixes.fixes c.in_ok-bytes.bytes c.into_names-imports.result.0 c.into_names-imports.result.1 of c.requires c.in_ok-live.ensures
    (subst (λ (qs : List Fixup). ArePairs c.in_ok-tables.tables (pairs_among imports (map shown qs))) c.as_slice.ensures.value c.in_ok-tables.ensures)
    c.in_ok-pages.ensures.records
    c.in_ok-fixes.ensures
    (λ k. rows-with k c.place_live.new.rows c.in_ok-rows.rows (map shown live) (map piece_shown c.args.pieces.now) c.args.objects.now c.in_ok-bytes.bytes c.in_ok-rows.ensures c.in_ok-pages.ensures.bytes c.in_ok-bytes.ensures)
    c.into_names-imports.ensures
