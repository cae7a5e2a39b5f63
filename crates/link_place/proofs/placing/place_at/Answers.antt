use Rattle.std.proofs.Common.{◌≡◌, ◌∙◌, ap, map, subst, sym, None, Some, List}
use Rattle.link_model.specs.declared.symbols.LaidObject.{LaidObject}
use Rattle.link_model.specs.Link.{Link}
use Rattle.obj_types.specs.declared.object.ObjModule.{ObjModule}
use Rattle.link_types.specs.Symbols.{SymbolTable}
use Rattle.link_types.specs.declared.layout.Layout.{Layout}
use Rattle.link_place.specs.declared.placing.Placed.{Placed}
use Rattle.link_place.specs.Placing.{AreLaid}
use Rattle.link_place.proofs.PlacedPages.{refused-fixup, start-decides}
use Rattle.link_place.proofs.AnswersMapped.{answers-failed, answers-value, matched-err, matched-ok}
use Rattle.link_place.proofs.placing.place_at.Goals as goal

-- The objects are lent as they are.
lent : (l : Link) (ms : List ObjModule) (s : SymbolTable) (layout : Layout) (os : List LaidObject) → os ≡ layout.objects → AreLaid l ms s layout.places layout.objects → AreLaid l ms s layout.places os
lent l ms s layout os is laid = subst (λ (xs : List LaidObject). AreLaid l ms s layout.places xs) (sym is) laid

pub returns-in-Err : goal.returns-in-Err
returns-in-Err c =
    answers-failed c.pages_of.result c.in-Err.fail _ _ _ _ c.in-Err.is (λ refusal told l laid. refused-fixup l refusal (told l (lent _ _ _ c.args.layout.now _ c.objects-objects.ensures laid))) c.pages_of.ensures

pub returns-in-Err-2 : goal.returns-in-Err-2
returns-in-Err-2 c = λ l laid.
    let as_lent = lent l (map (λ m. m.now) c.args.modules.now) c.args.syms.now c.args.layout.now c.objects-objects.result.now c.objects-objects.ensures laid in
    let paged = answers-value c.pages_of.result c.in-Ok.pages _ _ c.in-Ok.is c.pages_of.ensures in
    let told = matched-err c.in_ok-refusal-in-Ok.field-0 c.in-Err-2.refusal _ _ c.in-Err-2.is (c.in_ok-refusal-in-Ok.ensures l as_lent.modules as_lent.objects as_lent.places as_lent.meanings) in
    start-decides l (Some c.in-Err-2.refusal) (paged l as_lent).0 told

pub returns-in-Ok-2 : goal.returns-in-Ok-2
returns-in-Ok-2 c = λ l laid.
    let as_lent = lent l (map (λ m. m.now) c.args.modules.now) c.args.syms.now c.args.layout.now c.objects-objects.result.now c.objects-objects.ensures laid in
    let paged = answers-value c.pages_of.result c.in-Ok.pages _ _ c.in-Ok.is c.pages_of.ensures in
    let told = matched-ok c.in_ok-refusal-in-Ok.field-0 c.in-Ok-2.start _ _ c.in-Ok-2.is (c.in_ok-refusal-in-Ok.ensures l as_lent.modules as_lent.objects as_lent.places as_lent.meanings) in
    let made = c.with_start.ensures in
    let pages = (paged l as_lent).1 in (
      start-decides l None (paged l as_lent).0 told.1,
      record {
        bytes = ap (λ (p : Placed). p.bytes) made ∙ pages.bytes;
        fixes = ap (λ (p : Placed). p.fixes) made ∙ pages.fixes;
        imports = ap (λ (p : Placed). p.imports) made ∙ pages.imports;
        procs = ap (λ (p : Placed). p.procs) made ∙ pages.procs;
        start = ap (λ (p : Placed). p.start) made ∙ told.0;
        top = ap (λ (p : Placed). p.stack) made;
      },
    )
