use Rattle.std.proofs.Common.{◌≡◌, ◌∙◌, ap, sym, subst, length, map}
use Rattle.std.specs.Prelude.{All}
use Rattle.std.specs.List.{flat_map, range_with_len}
use Rattle.link_model.specs.ImportTables.{name_offset, name_table}
use Rattle.lx_fixrec.specs.Writable.{MayBeWritten}
use Rattle.lx_model.specs.NameTables.{import_spelling, names_spelling}
use Rattle.lx_model.specs.TableSpelling.{objects_spelling, pages_spelling, doublewords}
use Rattle.lx_model.specs.JoinedRecords.{records_for}
use Rattle.image_model.specs.ObjectTable.{object_heads_from}
use Rattle.image_model.specs.PageForms.{pages_in, form_of_page}
use Rattle.image_model.specs.PageTables.{page_heads_from, form_data, page_records, record_offsets_from}
use Rattle.lx_write.specs.Offsets.{NameIsThere, fix_at}
use Rattle.lx_write.specs.Value.{image_value, page_fixes}
use Rattle.lx_write.proofs.SameFixes.{names_there, fixes_same}
use Rattle.lx_write.proofs.Fields.{sections_are}
use Rattle.image_model.proofs.PagesRead.{heads_long}
use Rattle.image_model.specs.Sections.{sections}
use Rattle.lx_model.specs.ExportTables.{resident_table, other_table}
use Rattle.lx_model.specs.JoinedEntries.{bundles_for}
use Rattle.lx_model.specs.Bundles.{table_spelling}
use Rattle.lx_exports.specs.Exports.{exported_of, export_refusal}
use Rattle.lx_write.proofs.Short.{all_short}
use Rattle.lx_write.proofs.sections.sections_of.Goals as goal

pub records_of-requires-clause-fit : goal.records_of-requires-clause-fit
records_of-requires-clause-fit c = subst (All (All MayBeWritten)) (sym c.as_slice-4.ensures) c.requires.fixes

pub records_of-requires-clause-names : goal.records_of-requires-clause-names
records_of-requires-clause-names c =
    subst (All (All (All (λ f. NameIsThere (length c.as_slice-5.result.now) f.target)))) (sym c.as_slice-4.ensures)
    (names_there c.args.image.now c.as_slice-5.result.now (c.as_slice-5.ensures ∙ c.in_ok-offsets.ensures ∙ ap (λ ns. map (name_offset ns) (range_with_len 0 (length ns))) c.as_slice-3.ensures) c.requires.targets)

pub write_pages-requires : goal.write_pages-requires
write_pages-requires c =
    all_short c.as_slice-2.result.now c.as_slice-heads.result.now (c.as_slice-heads.ensures.value ∙ c.in_ok-pages.ensures.heads)

pub returns : goal.returns
unfolding image_value sections
returns c =
    let m = c.args.image.now in
    let tables = c.in_ok-tables.ensures.written in
    let offsets = c.as_slice-5.ensures ∙ c.in_ok-offsets.ensures ∙ ap (λ ns. map (name_offset ns) (range_with_len 0 (length ns))) c.as_slice-3.ensures in
    let fixes : map (map (fix_at c.as_slice-5.result.now)) (flat_map (λ pages. pages) c.as_slice-4.result.now) ≡ page_fixes m =
    ap (λ xs. map (map (fix_at c.as_slice-5.result.now)) (flat_map (λ pages. pages) xs)) c.as_slice-4.ensures ∙ fixes_same m c.as_slice-5.result.now offsets c.requires.targets in
    let heads = c.in_ok-pages.ensures.heads ∙ ap (λ os. page_heads_from 0 (map form_of_page (flat_map pages_in os))) c.as_slice-2.ensures in (
      ap export_refusal (sym c.as_slice.ensures) ∙ tables.accepted,
      sections_are (image_value m) _ _ _ _ _ _ _ _ _ _
          (c.in_ok-object_table.ensures ∙ ap (λ os. objects_spelling (object_heads_from 1 os)) c.as_slice-6.ensures)
          (c.in_ok-write_pages.ensures ∙ ap pages_spelling (c.as_slice-heads.ensures.value ∙ heads))
          (tables.resident ∙ ap (λ xs. names_spelling (resident_table m.name (exported_of xs))) c.as_slice.ensures)
          (tables.entries ∙ ap (λ xs. table_spelling (bundles_for (exported_of xs))) c.as_slice.ensures)
          (c.from_vec.ensures ∙ c.in_ok-records.ensures.spans ∙ ap (λ fs. doublewords (record_offsets_from 0 (map records_for fs))) fixes)
          (c.from_vec-2.ensures ∙ c.in_ok-records.ensures.records ∙ ap (λ fs. flat_map page_records (map records_for fs)) fixes)
          (c.in_ok-import_table.ensures ∙ ap (flat_map import_spelling) c.as_slice-7.ensures)
          (c.in_ok-proc_table.ensures ∙ ap name_table c.as_slice-8.ensures)
          (c.from_vec-3.ensures ∙ c.in_ok-pages.ensures.contents ∙ ap (λ os. flat_map form_data (map form_of_page (flat_map pages_in os))) c.as_slice-2.ensures)
          (tables.others ∙ ap (λ xs. names_spelling (other_table m.name m.about (exported_of xs))) c.as_slice.ensures),
      ap length (c.as_slice-heads.ensures.value ∙ heads) ∙ heads_long (map form_of_page (flat_map pages_in m.bytes)) 0,
    )
