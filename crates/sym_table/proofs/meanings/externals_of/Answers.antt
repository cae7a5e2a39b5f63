use Rattle.std.proofs.Common.{◌≡◌, ◌∙◌, sym, map, List, Some}
use Rattle.link_model.specs.declared.symbols.SymDef.{SymDef}
use Rattle.sym_table.specs.Meanings.{meaning_by, missing_by, row_in, missing_row}
use Rattle.lx_types.proofs.Failing.{answered}
use Rattle.sym_table.proofs.LocalTables.{AreLocals, row_is, missing_is}
use Rattle.sym_table.proofs.meanings.externals_of.Goals as goal

pub returns : goal.returns
returns c =
    let globals = c.args.globals.now in
    let by = c.args.by in
    let m = c.args.object.now in
    let locals = c.in_ok-locals.locals in
    let pubs = c.as_slice.result.now in
    let es = c.as_slice-2.result.now in
    let are : AreLocals m pubs locals = (c.as_slice.ensures, c.in_ok-locals.ensures) in
    answered c.row_by.result
    (λ (row : List SymDef). map Some row ≡ map (meaning_by globals by locals) es) (λ (row : List SymDef). map Some row ≡ row_in globals by m)
    (λ refusal. missing_by (meaning_by globals by locals) es ≡ Some refusal) (λ refusal. missing_row globals by m ≡ Some refusal)
    (λ row h. h ∙ row_is globals by m pubs locals es are c.as_slice-2.ensures)
    (λ refusal h. sym (missing_is globals by m pubs locals es are c.as_slice-2.ensures) ∙ h)
    c.row_by.ensures
