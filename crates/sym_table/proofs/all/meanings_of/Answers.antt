use Rattle.std.proofs.Common.{◌≡◌, ◌∙◌, ◌++◌, ◌∷◌, [], ◌+◌, ap, sym, Some, None, map, take, List, Option, ℕ}
use Rattle.std.specs.Option.{option_map}
use Rattle.std.proofs.lemmas.List.{map-append}
use Rattle.obj_types.specs.declared.object.ObjModule.{ObjModule}
use Rattle.obj_types.specs.declared.symbol.Ext.{Ext}
use Rattle.link_model.specs.declared.symbols.SymDef.{SymDef}
use Rattle.link_model.specs.declared.refusals.SymRefusal.TheVariants.{Missing}
use Rattle.sym_table.specs.Meanings.{row_in, rows_in, meaning_in, missing_row, missing_external_in}
use Rattle.sym_table.proofs.AllModules.{asked-more, none-more, first-here}
use Rattle.lx_types.proofs.Failing.{handed_on}
use Rattle.sym_table.proofs.Lists.{none_is_none}
use Rattle.sym_table.proofs.all.meanings_of.Goals as goal

-- src/all.rt:30:26
pub returns-in-Err : goal.returns-in-Err
returns-in-Err c =
    let globals = c.args.globals.now in
    let mods = c.args.modules.now in
    let i = c.loop-index.index in
    let m = c.index-modules-index.result in
    let by = c.in_ok-count.field-0 in
    handed_on c.in-Err.fail
    (λ (row : List SymDef). map Some row ≡ row_in globals by m.now)
    (λ (rows : List (List SymDef)). (map (map Some) rows ≡ rows_in globals (map (λ b. b.now) mods)) × (missing_external_in globals (map (λ b. b.now) mods) ≡ None))
    (λ refusal. missing_row globals by m.now ≡ Some refusal)
    (λ refusal. missing_external_in globals (map (λ b. b.now) mods) ≡ Some refusal)
    (λ refusal h. first-here (λ (q : ℕ × ObjModule). missing_row globals q.0 q.1) mods i m refusal c.loop-index-test.true c.index-modules-index.is c.loop-index.invariant.1
    (ap (λ (n : ℕ). missing_row globals n m.now) (sym c.in_ok-count.ensures) ∙ h))
    c.in-Err.ensures

-- src/all.rt:27:5
pub loop-index-preserved : goal.loop-index-preserved
loop-index-preserved c =
    let globals = c.args.globals.now in
    let mods = c.args.modules.now in
    let i = c.loop-index.index in
    let m = c.index-modules-index.result in
    let row = c.in-Ok.row in
    let numbered : map Some row ≡ row_in globals (i + 1) m.now = c.in-Ok.ensures ∙ ap (λ (n : ℕ). row_in globals n m.now) c.in_ok-count.ensures in
    let nothing : missing_row globals (i + 1) m.now ≡ None =
    ap (λ (o : Option Ext). option_map (λ (e : Ext). Missing e.name) o) (none_is_none (meaning_in globals (i + 1) m.now) row m.now.exts numbered) in (
      ap (map (map Some)) c.in_ok-push-in-Ok.ensures
          ∙ map-append (map Some) c.loop-index.rows (row ∷ [])
          ∙ ap (λ (t : List (List (Option SymDef))). t ++ map Some row ∷ []) c.loop-index.invariant.0
          ∙ ap (λ (r : List (Option SymDef)). rows_in globals (map (λ b. b.now) (take i mods)) ++ r ∷ []) numbered
          ∙ sym (asked-more (λ (q : ℕ × ObjModule). row_in globals q.0 q.1) mods i m c.loop-index-test.true c.index-modules-index.is),
      none-more (λ (q : ℕ × ObjModule). missing_row globals q.0 q.1) mods i m c.loop-index-test.true c.index-modules-index.is c.loop-index.invariant.1 nothing,
    )
