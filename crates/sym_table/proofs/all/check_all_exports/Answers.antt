use Rattle.std.proofs.Common.{◌≡◌, ◌∙◌, ◌++◌, ap, sym, Some, None}
use Rattle.sym_table.specs.Meanings.{missing_export_in}
use Rattle.sym_table.proofs.Exports.{exports_of, exports-after, exports-before}
use Rattle.lx_types.proofs.Failing.{handed_on, answered}
use Rattle.sym_table.proofs.all.check_all_exports.Goals as goal

-- src/all.rt:66:9
pub returns-in-Ok : goal.returns-in-Ok
returns-in-Ok c =
    let globals = c.args.globals.now in
    let mods = c.args.modules.now in
    let whole = exports_of mods ++ c.args.input.now.def.exports in
    let same : missing_export_in globals whole ≡ missing_export_in globals c.as_slice.result.now =
    exports-after globals mods c.args.input.now.def.exports c.in-Ok.ensures ∙ ap (missing_export_in globals) (sym c.as_slice.ensures) in
    answered c.check_exports.result
    (λ (_ : Unit {0}). missing_export_in globals c.as_slice.result.now ≡ None)
    (λ (_ : Unit {0}). missing_export_in globals whole ≡ None)
    (λ refusal. missing_export_in globals c.as_slice.result.now ≡ Some refusal)
    (λ refusal. missing_export_in globals whole ≡ Some refusal)
    (λ _ h. same ∙ h) (λ refusal h. same ∙ h) c.check_exports.ensures

-- src/all.rt:68:5
pub returns-in-Err : goal.returns-in-Err
returns-in-Err c =
    let globals = c.args.globals.now in
    let mods = c.args.modules.now in
    let own = c.args.input.now.def.exports in
    handed_on c.in-Err.fail
    (λ (_ : Unit {0}). missing_export_in globals (exports_of mods) ≡ None)
    (λ (_ : Unit {0}). missing_export_in globals (exports_of mods ++ own) ≡ None)
    (λ refusal. missing_export_in globals (exports_of mods) ≡ Some refusal)
    (λ refusal. missing_export_in globals (exports_of mods ++ own) ≡ Some refusal)
    (λ refusal h. exports-before globals mods own refusal h)
    c.in-Err.ensures
