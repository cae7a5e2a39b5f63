use Rattle.std.proofs.Common.{◌∙◌, ap, List}
use Rattle.std.specs.List.{list_any}
use Rattle.obj_types.specs.declared.object.ObjModule.{ObjModule}
use Rattle.sym_table.specs.Leading.{awaits}
use Rattle.sym_table.proofs.ChoosingByNames.{first_known}
use Rattle.sym_table.proofs.choosing.first_choice.Goals as goal

pub returns-clause-known : goal.returns-clause-known
returns-clause-known c =
    let defined = c.in_ok-defined.defined in
    first_known c.args.input.now c.args.leaders.now _ c.requires c.in_ok-picks.ensures c.in_ok-defined.ensures
    (λ k. c.in_ok-waiting.ensures k ∙ ap (λ (ms : List ObjModule). list_any (λ m. list_any (awaits c.args.leaders.now defined k) m.exts) ms) c.as_slice.ensures)
