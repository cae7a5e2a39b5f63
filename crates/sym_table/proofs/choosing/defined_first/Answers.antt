use Rattle.std.proofs.Common.{◌∙◌, ap, ℕ, List, Bool, Option, is_some}
use Rattle.std.specs.Prelude.{◌||◌}
use Rattle.std.specs.List.{list_any}
use Rattle.obj_types.specs.declared.object.ObjModule.{ObjModule}
use Rattle.obj_types.specs.declared.symbol.Imp.{Imp}
use Rattle.link_model.specs.Choosing.{defines}
use Rattle.name_table.specs.Entries.{value_named}
use Rattle.sym_table.specs.Leading.{has_import}
use Rattle.sym_table.proofs.LeaderTables.{some_given, some_place}
use Rattle.sym_table.proofs.choosing.defined_first.Goals as goal

-- src/choosing.rt:77:1
pub returns : goal.returns
returns c = λ name.
    let own = has_import c.as_slice-2.result.now name in
    ap is_some (c.in_ok-add_imports.ensures name)
    ∙ some_given (value_named name c.in_ok-table.table) own 0
    ∙ ap (λ (o : Option ℕ). is_some o || own) (c.in_ok-table.ensures name)
    ∙ ap (λ (b : Bool). b || own) (some_place (λ m. defines m name) 0 c.as_slice.result.now)
    ∙ ap (λ (ms : List ObjModule). list_any (λ m. defines m name) ms || own) c.as_slice.ensures
    ∙ ap (λ (is : List Imp). list_any (λ m. defines m name) c.args.input.now.objects || has_import is name) c.as_slice-2.ensures
