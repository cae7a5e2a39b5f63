use Rattle.std.proofs.Common.{◌≡◌, ◌+◌, ◌*◌, ◌<◌, ◌≤◌, ◌++◌, List, ℕ, length, sym, subst}
use Rattle.lx_types.specs.Answers.{Answers}
use Rattle.omf_model.specs.Library.{Lib}
use Rattle.implib_model.specs.declared.library.TheConstants.{PAGE}
use Rattle.implib_model.specs.Imports.{modules_of, objects_of}
use Rattle.implib_model.specs.Library.{header_bytes, end_bytes, library_bytes}
use Rattle.omf_write.specs.declared.libraries.TheConstants.{LIBRARY_LIMIT}
use Rattle.omf_write.specs.Lent.{imports_of, AllNamesFit}
use Rattle.omf_write.proofs.ImportPages.{pages_are, are_modules}
use Rattle.omf_write.proofs.LibraryRead.{library_read}
use Rattle.omf_write.proofs.Mapped.{answer_follows, both_follow}
use Rattle.omf_write.proofs.import_libraries.import_library.Goals as goal

pub returns-clause-written : goal.returns-clause-written
returns-clause-written c =
    subst (λ (pages : List ℕ). Answers c.written.result
    (λ bytes. (bytes.items ≡ header_bytes (2 * PAGE + length pages) ++ (pages ++ end_bytes)) × (2 * PAGE + length pages ≤ LIBRARY_LIMIT))
    (λ _. LIBRARY_LIMIT < 2 * PAGE + length pages)) (pages_are c.args.imports.now) c.written.ensures.is

pub returns-clause-read : goal.returns-clause-read
returns-clause-read c =
    let imports = c.args.imports.now in
    let modules = modules_of (imports_of imports) in
    let objects = objects_of (imports_of imports) in
    both_follow (λ bytes. bytes.items ≡ library_bytes modules) (λ bytes. AllNamesFit imports) (λ bytes. Lib bytes.items objects) c.written.result
    (λ bytes is fits. subst (λ (x : List ℕ). Lib x objects) (sym is) (library_read modules objects (are_modules imports c.requires fits)))
    (answer_follows _ (λ bytes. bytes.items ≡ library_bytes modules) _ c.written.result (λ bytes said. said.0) (returns-clause-written c))
    c.written.ensures.fits
