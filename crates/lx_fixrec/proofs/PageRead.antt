-- The records of a page are read as its fixups, wherever they stand.
use Rattle.std.proofs.Common.{◌≡◌, ℕ, List, [], ◌∷◌, ◌++◌, map, refl, sym, subst, ap, ◌∙◌}
use Rattle.std.specs.List.{flat_map}
use Rattle.std.specs.List.Sorted.{IsPermutation}
use Rattle.std.proofs.lemmas.List.{map-append}
use Rattle.lx_types.specs.declared.fix.Fix.{Fix}
use Rattle.lx_model.specs.Records.{Record, records_at}
use Rattle.lx_model.specs.RecordSpelling.{record_spelling, fixes_written}
use Rattle.lx_model.specs.JoinedRecords.{records_for}
use Rattle.lx_model.proofs.PagesRead.{records_mean}
use Rattle.lx_fixrec.specs.Left.{sources_of, left_in}
use Rattle.lx_fixrec.specs.Laws.{fixes_read, IsReadAs}
use Rattle.lx_fixrec.specs.Writable.{MayBeWritten}
use Rattle.lx_fixrec.proofs.Permuted.{records_keep_fixes}
use Rattle.lx_fixrec.proofs.RecordsFit.{records_fit}

of_one : (at : ℕ) (fs : List Fix) → map (λ (p : ℕ × Fix). p.1) (map (λ f. (at, f)) fs) ≡ fs
of_one at [] = refl
of_one at (f ∷ fs) = ap (λ (gs : List Fix). f ∷ gs) (of_one at fs)

pub of_all : (rs : List Record) → map (λ (p : ℕ × Fix). p.1) (flat_map sources_of rs) ≡ flat_map (λ (r : Record). r.fixes) rs
of_all [] = refl
of_all (r ∷ rs) =
    map-append (λ (p : ℕ × Fix). p.1) (sources_of r) (flat_map sources_of rs)
    ∙ ap (λ (fs : List Fix). fs ++ map (λ (p : ℕ × Fix). p.1) (flat_map sources_of rs)) (of_one r.at r.fixes)
    ∙ ap (λ (fs : List Fix). r.fixes ++ fs) (of_all rs)

pub page_read : (fixes : List Fix) (at : ℕ) → MayBeWritten fixes → IsReadAs fixes (left_in at (flat_map record_spelling (records_for fixes)))
page_read fixes at may =
    let bytes = flat_map record_spelling (records_for fixes) in
    let means = records_mean (records_for fixes) at (records_fit fixes may.each) in
    let order : fixes_read (left_in at bytes) ≡ flat_map fixes_written (records_for fixes) = of_all (records_at at bytes).items ∙ means.fixes_are in
    record {
      in_order = order;
      each_once = subst (IsPermutation fixes) (sym order) (records_keep_fixes fixes);
      faultless = means.faultless;
    }
