-- The tables of a file are read as those of its image.
use Rattle.std.proofs.Common.{◌≡◌, ℕ, ◌+◌, ◌*◌, ◌<◌, false, List, [], ◌∷◌, length, map, take, drop, Ok, Result, refl, sym, ap, ◌∙◌, append-nil, length-append, arith}
use Rattle.std.specs.Prelude.{◌==◌, if◌then◌else◌, Bool}
use Rattle.std.specs.List.{flat_map, range_with_len}
use Rattle.std.proofs.lemmas.List.{take_at}
use Rattle.lx_types.specs.declared.refusal.LxRefusal.{LxRefusal}
use Rattle.lx_model.specs.declared.lengths.TheConstants.{OBJECT_ENTRY_LEN}
use Rattle.lx_model.specs.declared.header_fields.TheConstants.{NONRESIDENT_NAME_TABLE, NONRESIDENT_NAME_LENGTH}
use Rattle.lx_model.specs.Reading.{placed}
use Rattle.lx_model.specs.Header.{field, object_count, import_count}
use Rattle.lx_model.specs.Tables.{object_entry, objects_of}
use Rattle.lx_model.specs.NameTables.{Named, names_in, name_spelling, resident_names, other_names, imports_in, import_names}
use Rattle.lx_model.specs.EntryTable.{Numbered, entries_in, entries_of}
use Rattle.lx_model.specs.Bundles.{entries_after}
use Rattle.lx_model.proofs.NamesRead.{not_zero, table_reads}
use Rattle.lx_model.proofs.ImportsRead.{imports_again}
use Rattle.lx_model.proofs.BundlesRead.{table_reads as bundles_again}
use Rattle.lx_model.proofs.PlacesRead.{objects_again}
use Rattle.image_model.specs.Image.{Image}
use Rattle.image_model.specs.Sections.{sections, objects_at, residents_at, entries_at, imports_at, others_at}
use Rattle.image_model.specs.File.{file_of}
use Rattle.image_model.specs.ReadBack.{ImageFits, SectionsReadBack}
use Rattle.image_model.proofs.Fields.{tables}
use Rattle.image_model.proofs.PagesRead.{pages_read}
use Rattle.image_model.proofs.SpansRead.{spans_read}
use Rattle.image_model.proofs.Standing.{standing, dropped, from_pages, from_entries, from_spans, from_procs}

-- ---- names

residents_read : (m : Image) → ImageFits m → resident_names (file_of m) ≡ Ok m.residents
unfolding sections
residents_read m fits =
    let s = sections m in
    let file = file_of m in
    let at = residents_at s in
    ap (λ (n : ℕ). placed n (names_in (drop n file))) (tables m fits).residents
    ∙ ap (λ (ys : List ℕ). placed at (names_in ys)) (dropped file at _ (standing m).residents)
    ∙ ap (λ (r : Result (List Named) LxRefusal). placed at r) (table_reads m.residents (from_entries s) fits.residents)

otherwise : {A : Type 0} (b : Bool) (x y : A) → b ≡ false → (if b then x else y) ≡ y
otherwise b x y is = ap (λ (c : Bool). if c then x else y) is

others_read : (m : Image) → ImageFits m → other_names (file_of m) ≡ Ok m.others
unfolding sections
others_read m fits =
    let s = sections m in
    let file = file_of m in
    let at = others_at s in
    let n = field file NONRESIDENT_NAME_LENGTH in
    let long : 0 < length s.others = omega (arith, length-append (flat_map name_spelling m.others) (0 ∷ [])) in
    let is_some : (n == 0) ≡ false = ap (λ (k : ℕ). k == 0) (tables m fits).others_length ∙ not_zero (length s.others) long in
    let whole : take (length s.others) s.others ≡ s.others = ap (λ (ys : List ℕ). take (length s.others) ys) (sym (append-nil s.others)) ∙ take_at s.others [] (length s.others) refl in
    otherwise (n == 0) (Ok []) (placed (field file NONRESIDENT_NAME_TABLE) (names_in (take n (drop (field file NONRESIDENT_NAME_TABLE) file)))) is_some
    ∙ ap (λ (k : ℕ). placed k (names_in (take n (drop k file)))) (tables m fits).others
    ∙ ap (λ (k : ℕ). placed at (names_in (take k (drop at file)))) (tables m fits).others_length
    ∙ ap (λ (ys : List ℕ). placed at (names_in (take (length s.others) ys))) (dropped file at _ (standing m).others)
    ∙ ap (λ (ys : List ℕ). placed at (names_in ys)) (whole ∙ sym (append-nil s.others))
    ∙ ap (λ (r : Result (List Named) LxRefusal). placed at r) (table_reads m.others [] fits.others)

imports_read : (m : Image) → ImageFits m → import_names (file_of m) ≡ Ok m.imports
unfolding sections
imports_read m fits =
    let s = sections m in
    let file = file_of m in
    let at = imports_at s in
    ap (λ (n : ℕ). placed n (imports_in (import_count file) (drop n file))) (tables m fits).imports
    ∙ ap (λ (n : ℕ). placed at (imports_in n (drop at file))) (tables m fits).import_number
    ∙ ap (λ (ys : List ℕ). placed at (imports_in (length m.imports) ys)) (dropped file at _ (standing m).imports)
    ∙ ap (λ (r : Result (List (List ℕ)) LxRefusal). placed at r) (imports_again m.imports (from_procs s) fits.imports)

-- ---- entries

entries_read : (m : Image) → ImageFits m → entries_of (file_of m) ≡ Ok (entries_after 0 m.entries)
unfolding sections
entries_read m fits =
    let s = sections m in
    let file = file_of m in
    let at = entries_at s in
    ap (λ (n : ℕ). placed n (entries_in (object_count file) (import_count file) (drop n file))) (tables m fits).entries
    ∙ ap (λ (n : ℕ). placed at (entries_in n (import_count file) (drop at file))) (tables m fits).object_number
    ∙ ap (λ (n : ℕ). placed at (entries_in (length m.objects) n (drop at file))) (tables m fits).import_number
    ∙ ap (λ (ys : List ℕ). placed at (entries_in (length m.objects) (length m.imports) ys)) (dropped file at _ (standing m).entries)
    ∙ ap (λ (r : Result (List Numbered) LxRefusal). placed at r) (bundles_again (length m.objects) (length m.imports) m.entries (from_spans s) fits.entries fits.ordinals)

-- ---- objects

objects_read : (m : Image) → ImageFits m → objects_of (file_of m) ≡ m.objects
unfolding objects_of sections
objects_read m fits =
    let s = sections m in
    let file = file_of m in
    let has = (standing m).objects in
    ap (λ (n : ℕ). map (λ k. object_entry file (n + OBJECT_ENTRY_LEN * k)) (range_with_len 0 (object_count file))) (tables m fits).objects
    ∙ ap (λ (n : ℕ). map (λ k. object_entry file (objects_at s + OBJECT_ENTRY_LEN * k)) (range_with_len 0 n)) (tables m fits).object_number
    ∙ ap (λ (n : ℕ). map (λ k. object_entry file (n + OBJECT_ENTRY_LEN * k)) (range_with_len 0 (length m.objects))) (sym has.long)
    ∙ ap (λ (ys : List ℕ). map (λ k. object_entry ys (length has.before + OBJECT_ENTRY_LEN * k)) (range_with_len 0 (length m.objects))) has.spelled
    ∙ objects_again has.before m.objects (from_pages s) fits.objects

pub sections_read : SectionsReadBack
sections_read m fits = record {
  objects = objects_read m fits;
  pages = pages_read m fits;
  spans = spans_read m fits;
  residents = residents_read m fits;
  others = others_read m fits;
  imports = imports_read m fits;
  entries = entries_read m fits;
}
