-- The file of a module's link is shorter than 2^32 bytes: two pages, at most 2,048 references, one export, and names.
use Rattle.std.specs.Prelude.{◌≡◌, ℕ, ◌+◌, ◌≤◌, ◌<◌, ◌^◌, Bool, true, false, not, List, [], ◌∷◌, filter, length, map, sum_by, refl}
use Rattle.std.specs.List.{AllByRecursion, enumerate_from, filter_map, flat_map, range_with_len}
use Rattle.std.proofs.Common.{ap, sym, ◌∙◌, arith, length-append, subst}
use Rattle.std.proofs.lemmas.List.{length-map}
use Rattle.std.proofs.lemmas.List.FromFn.{length-map-range_with_len}
use Rattle.lx_types.specs.declared.entry.EntryHead.TheVariants.{At}
use Rattle.lx_types.specs.declared.fix.Fix.{Fix}
use Rattle.lx_types.proofs.Lists.{length-filter_map}
use Rattle.obj_types.specs.declared.object.ObjModule.{ObjModule}
use Rattle.obj_types.specs.declared.object.FixAt.{FixAt}
use Rattle.obj_types.specs.declared.object.Piece.{Piece}
use Rattle.link_model.specs.declared.symbols.LaidObject.{LaidObject}
use Rattle.link_model.specs.Exports.{Export, Out}
use Rattle.link_model.specs.Fixups.{Fixup, fixup_of, fixups}
use Rattle.link_model.specs.ImportTables.{link_pairs, modules_in, name_table, procs_in}
use Rattle.link_model.specs.Layout.{objects}
use Rattle.link_model.specs.Link.{Link}
use Rattle.link_model.specs.Mean.{live_fixups}
use Rattle.link_model.specs.Patches.{is_patched, recorded}
use Rattle.link_model.specs.Records.{object_records, page_count, page_records, record_on, stands_on}
use Rattle.lx_model.specs.Bundles.{table_spelling}
use Rattle.lx_model.specs.ExportTables.{Exported, named, other_table, resident_table}
use Rattle.lx_model.specs.JoinedEntries.{bundles_for}
use Rattle.lx_model.specs.JoinedRecords.{records_for}
use Rattle.lx_model.specs.NameTables.{NameFits, Named, import_spelling, names_spelling}
use Rattle.lx_model.specs.RecordSpelling.{RecordFits, Written}
use Rattle.lx_model.specs.TableSpelling.{objects_spelling}
use Rattle.image_model.specs.Exported.{exported, exported_of}
use Rattle.image_model.specs.File.{file_of}
use Rattle.image_model.specs.Image.{Image}
use Rattle.image_model.specs.Linked.{called, fix_in_file, fixup_records, image_of, page_fixes, page_forms}
use Rattle.image_model.specs.ObjectTable.{object_heads_from}
use Rattle.image_model.specs.PageTables as tables
use Rattle.image_model.specs.PageTables.{page_heads_from, record_offsets_from}
use Rattle.image_model.specs.Sections.{sections}
use Rattle.image_model.proofs.PagesRead.{heads_long}
use Rattle.image_model.proofs.Places.{file_long}
use Rattle.image_model.proofs.SpansRead.{offsets_long}
use Rattle.image_model.proofs.TablesFaultless.{doublewords_long}
use Rattle.image_model.proofs.PagesFaultless.{pages_long}
use Rattle.image_model.proofs.FewImports.{few-modules}
use Rattle.image_model.proofs.PageCounts.{pages-are}
use Rattle.layer_laws.specs.LinkedImages.{Links}
use Rattle.layer_laws.proofs.Exports.{exports-fit}
use Rattle.layer_laws.proofs.Forms.{forms-fit}
use Rattle.layer_laws.proofs.Given.{Given, given}
use Rattle.layer_laws.proofs.Names.{modules-fit, others-fit, residents-fit}
use Rattle.layer_laws.proofs.Records.{records-fit}
use Rattle.gen_model.specs.Modules.{gen_input, gen_pieces, public_name, reference, refers}
use Rattle.load_model.proofs.FewSerials.{fewer}
use Rattle.gen_laws.specs.Laws.{InputsAreWhole, LinkedFilesAreShort}
use Rattle.gen_laws.proofs.FirstPairs.{no_procs}
use Rattle.gen_laws.proofs.FirstRanges.{input_ranged}
use Rattle.gen_laws.proofs.FirstShape.{Names, gen_link, its_exports, its_objects, its_shape, link_is, names_of, shape, shape_link, the_object}
use Rattle.gen_laws.proofs.LinksInputs.{inputs_linked}
use Rattle.gen_laws.proofs.ShortRecords.{few_live, few_records, records_short}
use Rattle.gen_laws.proofs.ShortSections.{forms_short, imports_short, names_short}

-- ---- its fixups

few_by : (b : Bool) (n : Names) (pieces : List Piece) (fixes : List FixAt) → length (fixups (shape_link b n pieces fixes)) ≤ length fixes
unfolding fixups
few_by b n pieces fixes =
    let l : Link = shape_link b n pieces fixes in
    let m : ObjModule = shape b n pieces fixes in
    let both = length-append (filter_map (fixup_of l 1 m) fixes) [] in
    let few = length-filter_map (fixup_of l 1 m) fixes in
    omega (arith, both, few)

few_references : (k n : ℕ) (pieces : List Piece) → length (fixups (shape_link (refers k) (names_of k) pieces (map (reference k) (range_with_len 0 n)))) ≤ n
few_references k n pieces =
    let few = few_by (refers k) (names_of k) pieces (map (reference k) (range_with_len 0 n)) in
    let long = length-map-range_with_len (reference k) 0 n in
    omega (arith, few, long)

few_fixups : (k : ℕ) (l : Link) → l ≡ gen_link k → length (fixups l) ≤ 2048
few_fixups k l is = subst (λ (x : Link). length (fixups x) ≤ 2048) (sym (is ∙ its_shape k)) (few_references k 2048 gen_pieces)

few_on_page : (l : Link) (object page : ℕ) → length (page_records l object page) ≤ length (fixups l)
unfolding page_records recorded live_fixups
few_on_page l object page =
    let records = length-filter_map (record_on l page) (filter (stands_on object page) (recorded l)) in
    let standing = fewer (stands_on object page) (recorded l) in
    let kept = fewer (λ (q : Fixup). not (is_patched q)) (live_fixups l) in
    let live = few_live (fixups l) in
    omega (arith, records, standing, kept, live)

-- ---- its two pages

two_pages : (l : Link) → objects l ≡ the_object ∷ [] → object_records l ≡ (page_records l 1 0 ∷ page_records l 1 1 ∷ []) ∷ []
unfolding object_records
two_pages l are = ap (λ (os : List LaidObject). map (λ q. map (page_records l q.0) (range_with_len 0 (page_count q.1.size))) (enumerate_from 1 os)) are

forms_counted : (l : Link) → objects l ≡ the_object ∷ [] → length (page_forms l) ≡ 2
forms_counted l are = sym (pages-are l) ∙ ap (λ (pages : List (List (List Fix))). sum_by length pages) (two_pages l are)

abbrev records_on : Link → ℕ → List Written
records_on l page = records_for (map (fix_in_file l) (page_records l 1 page))

records_are : (l : Link) → objects l ≡ the_object ∷ [] → fixup_records l ≡ records_on l 0 ∷ records_on l 1 ∷ []
unfolding fixup_records page_fixes
records_are l are = ap (λ (pages : List (List (List Fix))). map records_for (map (map (fix_in_file l)) (flat_map (λ pages. pages) pages))) (two_pages l are)

few_written : (l : Link) (page : ℕ) → length (records_on l page) ≤ length (fixups l)
few_written l page =
    let few = few_records (map (fix_in_file l) (page_records l 1 page)) in
    let same = length-map (page_records l 1 page) (fix_in_file l) in
    let on = few_on_page l 1 page in
    omega (arith, few, same, on)

two_short : (xs ys : List Written) → AllByRecursion (AllByRecursion RecordFits) (xs ∷ ys ∷ []) → length xs ≤ 2048 → length ys ≤ 2048 → length (flat_map tables.page_records (xs ∷ ys ∷ [])) ≤ 2142208
two_short xs ys fits few_first few_second =
    let both = length-append (tables.page_records xs) (flat_map tables.page_records (ys ∷ [])) in
    let last = length-append (tables.page_records ys) [] in
    let first = records_short xs fits.0 in
    let second = records_short ys fits.1.0 in
    omega (arith, both, last, first, second, few_first, few_second)

heads_short : length (objects_spelling (object_heads_from 1 (the_object ∷ []))) ≡ 24
heads_short = refl

-- ---- its export

abbrev the_exported : List ℕ → Exported
the_exported name = record { name = name; ordinal = 1; resident = false; words = 0; head = At 1 0; wide = true }

exported_is : (k : ℕ) (l : Link) → l ≡ gen_link k → exported_of l ≡ the_exported (public_name k) ∷ []
unfolding exported_of
exported_is k l is = ap (λ (xs : List Export). filter_map (exported l) xs) (ap Out is ∙ its_exports k)

entries_long : (name : List ℕ) → length (table_spelling (bundles_for (the_exported name ∷ []))) ≡ 10
unfolding bundles_for
entries_long name = refl

residents_few : (name : List ℕ) (xs : List Exported) → length (resident_table name xs) ≤ 1 + length xs
residents_few name xs =
    let same = length-map (filter (λ x. x.resident) xs) named in
    let few = fewer (λ (x : Exported). x.resident) xs in
    omega (arith, same, few)

others_few : (name about : List ℕ) (xs : List Exported) → length (other_table name about xs) ≤ 1 + length xs
others_few name about xs =
    let same = length-map (filter (λ x. not x.resident) xs) named in
    let few = fewer (λ (x : Exported). not x.resident) xs in
    omega (arith, same, few)

names_within : (ns : List Named) → AllByRecursion NameFits ns → length ns ≤ 2 → length (names_spelling ns) ≤ 517
names_within ns fits few = let short = names_short ns fits in omega (arith, short, few)

-- ---- the file

-- At most so many bytes has each section.
record AreShort (m : Image) : Type 0 where
  objects : length (objects_spelling m.objects) ≤ 24
  pages : length m.pages ≡ 2
  spans : length m.records ≡ 2
  residents : length (names_spelling m.residents) ≤ 517
  entries : length (table_spelling m.entries) ≤ 10
  records : length (flat_map tables.page_records m.records) ≤ 2142208
  imports : length (flat_map import_spelling m.imports) ≤ 16777216
  procs : length (name_table m.procs) ≤ 1
  contents : length (flat_map tables.form_data m.pages) ≤ 131072
  others : length (names_spelling m.others) ≤ 517

file_short : (m : Image) → AreShort m → length (file_of m) < 2 ^ 32
unfolding sections
file_short m are =
    let file = file_long m in
    let heads = heads_long m.pages 0 in
    let pages = pages_long (page_heads_from 0 m.pages) in
    let offsets = offsets_long m.records 0 in
    let spans = doublewords_long (record_offsets_from 0 m.records) in
    omega (arith, file, heads, pages, offsets, spans, are.objects, are.pages, are.spans, are.residents, are.entries, are.records, are.imports, are.procs, are.contents, are.others)

are_short : (k : ℕ) (l : Link) → Given l → l ≡ gen_link k → AreShort (image_of l)
unfolding image_of
are_short k l g is =
    let only : objects l ≡ the_object ∷ [] = ap objects is ∙ its_objects k in
    let none = no_procs k l is in
    let no_names : length (name_table (procs_in (link_pairs l))) ≡ 1 = ap (λ (names : List (List ℕ)). length (name_table names)) none in
    let small : length (name_table (procs_in (link_pairs l))) < 2 ^ 32 = omega (arith, no_names) in
    let exports = exports-fit l g small in
    let one : length (exported_of l) ≡ 1 = ap (λ (xs : List Exported). length xs) (exported_is k l is) in
    let forms = forms_counted l only in
    let records = records_are l only in
    let written = records-fit l g small in
    let fixups = few_fixups k l is in
    let first = few_written l 0 in
    let second = few_written l 1 in
    let modules = few-modules l g.sym_none in
    let residents = residents_few (called l) (exported_of l) in
    let others = others_few (called l) l.def.about (exported_of l) in
    let names = imports_short (modules_in (link_pairs l)) (modules-fit l g) in
    let contents = forms_short (page_forms l) (forms-fit l) in
    record {
      objects = subst (λ (os : List LaidObject). length (objects_spelling (object_heads_from 1 os)) ≤ 24) (sym only) (let long = heads_short in omega (arith, long));
      pages = forms;
      spans = ap (λ (pages : List (List Written)). length pages) records;
      residents = names_within (resident_table (called l) (exported_of l)) (residents-fit l g (exported_of l) exports) (omega (arith, residents, one));
      entries = subst (λ (xs : List Exported). length (table_spelling (bundles_for xs)) ≤ 10) (sym (exported_is k l is)) (let long = entries_long (public_name k) in omega (arith, long));
      records = subst (λ (pages : List (List Written)). length (flat_map tables.page_records pages) ≤ 2142208) (sym records)
          (two_short (records_on l 0) (records_on l 1) (subst (AllByRecursion (AllByRecursion RecordFits)) records written) (omega (arith, first, fixups)) (omega (arith, second, fixups)));
      imports = omega (arith, names, modules);
      procs = omega (arith, no_names);
      contents = omega (arith, contents, forms);
      others = names_within (other_table (called l) l.def.about (exported_of l)) (others-fit l g (exported_of l) exports) (omega (arith, others, one));
    }

pub files_short : InputsAreWhole → LinkedFilesAreShort
files_short whole k l one of_input =
    let links : Links (gen_input k) l = record { whole = whole k one; range = input_ranged k one.1; of_input = of_input; accepted = inputs_linked k l one of_input } in
    file_short (image_of l) (are_short k l (given (gen_input k) l links) (link_is k l of_input))
