use Rattle.std.proofs.Common.{◌∙◌, ◌++◌, ◌∷◌, [], ap, sym, map, take, List, Some, is_none, Option}
use Rattle.std.proofs.lemmas.List.{map-append}
use Rattle.std.specs.Option.{option_map}
use Rattle.obj_types.specs.declared.symbol.Ext.{Ext}
use Rattle.link_model.specs.declared.symbols.SymDef.{SymDef}
use Rattle.link_model.specs.declared.refusals.SymRefusal.TheVariants.{Missing}
use Rattle.sym_table.specs.Meanings.{meaning_by}
use Rattle.sym_table.proofs.Lists.{find-here, none_is_none}
use Rattle.link_types.proofs.Lists.{map-more}
use Rattle.sym_table.proofs.meanings.row_by.Goals as goal

pub returns-in-None : goal.returns-in-None
returns-in-None c =
    let xs = c.args.externals.now in
    let i = c.loop-external.external-index in
    let m : Ext → Option SymDef = meaning_by c.args.globals.now c.args.by c.args.locals.now in
    ap (option_map (λ (e : Ext). Missing e.name))
    (find-here (λ x. is_none (m x)) xs i c.external-item.result c.loop-external-test.true c.external-item.is
    (none_is_none m c.loop-external.row (take i xs) c.loop-external.invariant) (ap is_none (sym c.external_meaning.ensures ∙ c.in-None.is)))
    ∙ ap Some (sym c.in_ok-missing-in-None.ensures)

pub loop-external-preserved : goal.loop-external-preserved
loop-external-preserved c =
    let xs = c.args.externals.now in
    let i = c.loop-external.external-index in
    let m : Ext → Option SymDef = meaning_by c.args.globals.now c.args.by c.args.locals.now in
    ap (map Some) c.in_ok-push-in-Some.ensures
    ∙ map-append Some c.loop-external.row (c.in-Some.meaning ∷ [])
    ∙ ap (λ (t : List (Option SymDef)). t ++ Some c.in-Some.meaning ∷ []) c.loop-external.invariant
    ∙ ap (λ (o : Option SymDef). map m (take i xs) ++ o ∷ []) (sym c.in-Some.is ∙ c.external_meaning.ensures)
    ∙ sym (map-more m xs i c.external-item.result c.loop-external-test.true c.external-item.is)
