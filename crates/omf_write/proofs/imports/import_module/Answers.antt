use Rattle.std.proofs.Common.{List, ℕ, ◌++◌, sym, subst, ◌∙◌, ap}
use Rattle.omf_model.specs.Object.{IsModule}
use Rattle.implib_model.specs.ImportModule.{NamesFit, import_bytes, import_object}
use Rattle.omf_write.specs.Lent.{import_of}
use Rattle.omf_write.proofs.ImportRead.{import_is_read}
use Rattle.omf_write.proofs.imports.import_module.Goals as goal

pub returns-clause-read : goal.returns-clause-read
returns-clause-read c =
    let imp = c.args.imp.now in
    let read = import_is_read imp c.requires (subst NamesFit c.of-import.ensures c.names_fit.ensures) in
    let same =
    c.in_ok-push_import.ensures ∙ ap (λ (front : List ℕ). front ++ import_bytes (import_of c.of-import.result)) c.new-bytes.ensures.items
    ∙ ap import_bytes c.of-import.ensures in
    subst (λ (x : List ℕ). IsModule x (import_object imp)) (sym same) read
