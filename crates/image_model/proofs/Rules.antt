-- All definitions of a link and of its file opened at once, for trials on values and for proofs about the definitions
-- themselves: a declaration with the line `unfolding rules` computes with them.
use Rattle.link_model.specs.Symbols.{definition_of, imports, commons, global, Sym}
use Rattle.link_model.specs.SymbolRefusals.{sym_refusal}
use Rattle.link_model.specs.Communals.{parts}
use Rattle.link_model.specs.Order.{ordered}
use Rattle.link_model.specs.Rows.{rows}
use Rattle.link_model.specs.Layout.{objects, spot, common_spot, stack_top}
use Rattle.link_model.specs.LayoutRefusals.{lay_refusal}
use Rattle.link_model.specs.Goals.{target_of}
use Rattle.link_model.specs.Fixups.{fixups, fix_refusal}
use Rattle.link_model.specs.Value.{value_bytes, Value}
use Rattle.link_model.specs.Mean.{live_fixups, data_at, Mean}
use Rattle.link_model.specs.Exports.{Out, entry_refusal}
use Rattle.link_model.specs.Start.{Start, start_outside}
use Rattle.link_model.specs.Refusal.{place_refusal, link_refusal}
use Rattle.link_model.specs.Patches.{recorded, page_byte, object_bytes}
use Rattle.link_model.specs.ImportTables.{used_pairs, link_pairs}
use Rattle.link_model.specs.Records.{page_records, object_records}
use Rattle.link_model.specs.Header.{module_name, description, auto_data}
use Rattle.image_model.specs.Sections.{sections}
use Rattle.image_model.specs.File.{header_fields_of, file_of}
use Rattle.image_model.specs.PageForms.{form_of_page}
use Rattle.image_model.specs.Exported.{exported_of}
use Rattle.image_model.specs.Linked.{page_forms, page_fixes, fixup_records, image_of}
use Rattle.lx_model.specs.JoinedEntries.{bundles_for}
use Rattle.lx_model.specs.JoinedRecords.{records_for}
-- What a file means, for trials that read a written file.
use Rattle.lx_model.specs.Reading.{many, many_from}
use Rattle.lx_model.specs.Entries.{Entry, followed}
use Rattle.lx_model.specs.EntryTable.{at_entry, gate_entry, forward_entry, bundle_entries, object_entries, bundle_of_type, bundle_at}
use Rattle.lx_model.specs.Fixed.{Fixed, Raw, page_bytes, patch_of, sources_of}
use Rattle.lx_model.specs.FixupPages.{spans_of, spans_fault}
use Rattle.lx_model.specs.Header.{header_fault, header_place, field}
use Rattle.lx_model.specs.Iterated.{group_at, group_fields}
use Rattle.lx_model.specs.Module.{LxFault, parts_of, refs_of}
use Rattle.lx_model.specs.NameTables.{name_entry, import_name, import_entry}
use Rattle.lx_model.specs.RecordFields.{target_of_kind, internal_at, additive_at, offsets_at}
use Rattle.lx_model.specs.Records.{next_record, record_at, single_at, list_at}
use Rattle.lx_model.specs.Tables.{objects_of, objects_fault, page_heads, pages_fault}
use Rattle.image_model.specs.ReadBack.{parts_of_image}
use Rattle.image_model.specs.World.{world_of}

unfoldable pub rules : Unit {0}
unfolding definition_of imports commons global Sym sym_refusal parts ordered rows objects spot common_spot stack_top lay_refusal target_of fixups fix_refusal value_bytes Value live_fixups data_at Mean Out entry_refusal Start start_outside place_refusal link_refusal recorded page_byte object_bytes used_pairs link_pairs page_records object_records module_name description auto_data sections header_fields_of file_of form_of_page page_forms page_fixes fixup_records image_of exported_of bundles_for records_for
rules = tt

unfoldable pub reading : Unit {0}
unfolding rules header_place field LxFault parts_of header_fault objects_of objects_fault page_heads pages_fault name_entry import_name import_entry at_entry gate_entry forward_entry bundle_entries object_entries bundle_of_type bundle_at spans_of spans_fault refs_of group_at group_fields many many_from next_record record_at single_at list_at target_of_kind internal_at additive_at offsets_at Fixed Raw page_bytes patch_of sources_of Entry followed parts_of_image world_of
reading = tt
