use Rattle.std.proofs.Common.{◌≡◌, ◌∙◌, ap, sym, take, Some, not, true, false, Bool, find}
use Rattle.std.specs.Option.{option_map}
use Rattle.lx_types.proofs.Options.{mapped_none}
use Rattle.obj_types.specs.declared.symbol.Exp.{Exp}
use Rattle.link_model.specs.declared.refusals.SymRefusal.TheVariants.{Missing}
use Rattle.link_model.specs.SymbolRefusals.{is_exportable}
use Rattle.link_types.specs.Globals.{global_in}
use Rattle.sym_table.proofs.Lists.{find-here, find-past}
use Rattle.sym_table.proofs.meanings.check_exports.Goals as goal

pub returns-then-not-is_exportable : goal.returns-then-not-is_exportable
returns-then-not-is_exportable c =
    let xs = c.args.exports.now in
    let i = c.loop-export.export-index in
    let x = c.export-item.result in
    let leads : Exp → Bool = λ e. is_exportable (global_in c.args.globals.now e.internal) in
    let missing = λ (e : Exp). Missing e.internal in
    let is : leads x ≡ false =
    ap (λ n. is_exportable (global_in c.args.globals.now n)) (sym c.bytes.ensures.same) ∙ (ap is_exportable (sym c.meaning.ensures) ∙ (sym c.is_exportable.ensures ∙ c.if-not-is_exportable.true)) in
    ap (option_map missing)
    (find-here (λ e. not (leads e)) xs i x c.loop-export-test.true c.export-item.is
    (mapped_none missing (find (λ e. not (leads e)) (take i xs)) c.loop-export.invariant) (ap not is))
    ∙ ap Some (sym c.in_ok-missing.ensures)

pub loop-export-preserved : goal.loop-export-preserved
loop-export-preserved c =
    let xs = c.args.exports.now in
    let i = c.loop-export.export-index in
    let x = c.export-item.result in
    let leads : Exp → Bool = λ e. is_exportable (global_in c.args.globals.now e.internal) in
    let missing = λ (e : Exp). Missing e.internal in
    let is : leads x ≡ true =
    ap (λ n. is_exportable (global_in c.args.globals.now n)) (sym c.bytes.ensures.same) ∙ (ap is_exportable (sym c.meaning.ensures) ∙ (sym c.is_exportable.ensures ∙ c.if-not-is_exportable.false)) in
    ap (option_map missing)
    (find-past (λ e. not (leads e)) xs i x c.loop-export-test.true c.export-item.is
    (mapped_none missing (find (λ e. not (leads e)) (take i xs)) c.loop-export.invariant) (ap not is))
