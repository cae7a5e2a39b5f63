use Rattle.std.proofs.Common.{◌≡◌, ◌∙◌, ap, sym, Some, None}
use Rattle.sym_table.specs.Meanings.{missing_export_in}
use Rattle.sym_table.proofs.Exports.{exports_of, exports-past, exports-here}
use Rattle.lx_types.proofs.Failing.{handed_on}
use Rattle.sym_table.proofs.all.check_module_exports.Goals as goal

-- src/all.rt:48:27
pub returns-in-Err : goal.returns-in-Err
returns-in-Err c =
    let globals = c.args.globals.now in
    let mods = c.args.modules.now in
    let i = c.loop-object.object-index in
    let m = c.object-item.result in
    handed_on c.in-Err.fail
    (λ (_ : Unit {0}). missing_export_in globals c.as_slice.result.now ≡ None)
    (λ (_ : Unit {0}). missing_export_in globals (exports_of mods) ≡ None)
    (λ refusal. missing_export_in globals c.as_slice.result.now ≡ Some refusal)
    (λ refusal. missing_export_in globals (exports_of mods) ≡ Some refusal)
    (λ refusal h. exports-here globals mods i m refusal c.loop-object-test.true c.object-item.is c.loop-object.invariant
    (ap (missing_export_in globals) (sym c.as_slice.ensures) ∙ h))
    c.in-Err.ensures

-- src/all.rt:45:5
pub loop-object-preserved : goal.loop-object-preserved
loop-object-preserved c =
    exports-past c.args.globals.now c.args.modules.now c.loop-object.object-index c.object-item.result c.loop-object-test.true c.object-item.is c.loop-object.invariant
    (ap (missing_export_in c.args.globals.now) (sym c.as_slice.ensures) ∙ c.in-Ok.ensures)
