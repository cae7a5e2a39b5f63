-- The pages of lent imports are those of their library.
use Rattle.std.proofs.Common.{◌≡◌, ℕ, ◌+◌, ◌-◌, ◌%◌, ◌<◌, List, [], ◌∷◌, ◌++◌, length, take, slice_index_or, refl, sym, ap, length-append, arith}
use Rattle.implib_model.specs.declared.library.TheConstants.{PAGE}
use Rattle.implib_model.specs.ImportModule.{import_bytes}
use Rattle.implib_model.specs.Imports.{modules_of, objects_of}
use Rattle.implib_model.specs.Library.{fill_of, pages_of, AreModules}
use Rattle.omf_write.specs.declared.lent.LentImport.{LentImport}
use Rattle.omf_write.specs.Lent.{import_of, imports_of, AllFit, AllNamesFit, page_of, pages_for}
use Rattle.omf_write.proofs.ImportRead.{import_is_read}
use Rattle.omf_write.proofs.LibraryRead.{prefix_len, length-replicate}

pub pages_are : (imports : List LentImport) → pages_for imports ≡ pages_of (modules_of (imports_of imports))
pages_are [] = refl
pages_are (i ∷ imports) = ap (λ (pages : List ℕ). page_of i ++ pages) (pages_are imports)

pub are_modules : (imports : List LentImport) → AllFit imports → AllNamesFit imports → AreModules (modules_of (imports_of imports)) (objects_of (imports_of imports))
are_modules [] fit names = tt
are_modules (i ∷ imports) fit names = (import_is_read (import_of i) fit.0 names.0, are_modules imports fit.1 names.1)

-- They are too many where those of some imports are.
pub too_many : (imports : List LentImport) (k limit len size fill : ℕ) (i : LentImport) → k < length imports → i ≡ slice_index_or imports k i → size ≡ length (import_bytes (import_of i)) → fill ≡ (16 - size % 16) % 16 →
    len ≡ 32 + length (pages_for (take k imports)) → limit < len + (size + fill) → limit < 32 + length (pages_for imports)
too_many imports k limit len size fill i lt is size_is fill_is len_is over =
    let own = import_bytes (import_of i) in
    let whole : length (page_of i) ≡ size + fill = (let zeros = length-replicate ((PAGE - length own % PAGE) % PAGE) 0 in omega (arith, zeros, size_is, fill_is, length-append own (fill_of (length own)))) in
    let same : length (page_of (slice_index_or imports k i)) ≡ length (page_of i) = ap (λ (j : LentImport). length (page_of j)) (sym is) in
    let front = prefix_len page_of k imports i lt in
    omega (arith, whole, same, front, len_is, over)
