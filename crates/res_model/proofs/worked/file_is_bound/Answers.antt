use Rattle.std.proofs.Common.{refl}
use Rattle.lx_model.specs.Reading.{many, many_from}
use Rattle.lx_model.specs.EntryTable.{at_entry, gate_entry, forward_entry, bundle_entries, object_entries, bundle_of_type, bundle_at}
use Rattle.lx_model.specs.FixupPages.{spans_of, spans_fault}
use Rattle.lx_model.specs.Header.{header_fault, header_place, field}
use Rattle.lx_model.specs.Iterated.{group_at, group_fields}
use Rattle.lx_model.specs.Module.{LxFault, parts_of, refs_of}
use Rattle.lx_model.specs.NameTables.{name_entry, import_name, import_entry}
use Rattle.lx_model.specs.RecordFields.{target_of_kind, internal_at, additive_at, offsets_at}
use Rattle.lx_model.specs.Records.{next_record, record_at, single_at, list_at}
use Rattle.lx_model.specs.Resources.{resources_of, Res}
use Rattle.lx_model.specs.Tables.{objects_of, objects_fault, page_heads, pages_fault}
use Rattle.res_model.specs.Layout.{objects_place, pages_place, fixups_place, resources_place, end_place}
use Rattle.res_model.specs.Bound.{new_object, new_page, new_pages, object_table, page_table, fixup_table, with_number, with_fields, appended}
use Rattle.res_model.specs.Refusal.{layout_refusal, bind_refusal}
use Rattle.res_model.specs.Clear.{read_parts, is_clear}
use Rattle.res_model.proofs.worked.file_is_bound.Goals as goal

pub returns : goal.returns
unfolding header_place field LxFault parts_of header_fault objects_of objects_fault page_heads pages_fault name_entry import_name import_entry at_entry gate_entry forward_entry bundle_entries object_entries bundle_of_type bundle_at spans_of spans_fault refs_of group_at group_fields many many_from next_record record_at single_at list_at target_of_kind internal_at additive_at offsets_at resources_of Res objects_place pages_place fixups_place resources_place end_place new_object new_page new_pages object_table page_table fixup_table with_number with_fields appended layout_refusal bind_refusal read_parts is_clear
returns c = record { clear = refl; not_clear = refl; long = refl; faultless = refl; object = refl; found = refl; not_found = refl; front = refl; after = refl; none = refl; again = refl; again_empty = refl }
