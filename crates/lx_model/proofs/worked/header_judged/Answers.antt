use Rattle.std.proofs.Common.{refl}
use Rattle.lx_model.specs.Reading.{many, many_from}
use Rattle.lx_model.specs.EntryTable.{at_entry, gate_entry, forward_entry, bundle_entries, object_entries, bundle_of_type, bundle_at}
use Rattle.lx_model.specs.FixupPages.{spans_of, spans_fault}
use Rattle.lx_model.specs.Header.{header_fault, header_place, field}
use Rattle.lx_model.specs.Iterated.{group_at, group_fields}
use Rattle.lx_model.specs.Module.{LxFault, parts_of, refs_of}
use Rattle.lx_model.specs.NameTables.{name_entry, import_name, import_entry}
use Rattle.lx_model.specs.RecordFields.{target_of_kind, internal_at, additive_at, offsets_at}
use Rattle.lx_model.specs.Records.{next_record, record_at, single_at, list_at}
use Rattle.lx_model.specs.Tables.{objects_of, objects_fault, page_heads, pages_fault}
use Rattle.lx_model.proofs.worked.header_judged.Goals as goal

pub returns-clause-fields : goal.returns-clause-fields
unfolding header_place field LxFault parts_of header_fault objects_of objects_fault page_heads pages_fault name_entry import_name import_entry at_entry gate_entry forward_entry bundle_entries object_entries bundle_of_type bundle_at spans_of spans_fault refs_of group_at group_fields many many_from next_record record_at single_at list_at target_of_kind internal_at additive_at offsets_at
returns-clause-fields c = record { word_order = refl; level = refl; cpu_none = refl; cpu_286 = refl; cpu_486 = refl; cpu_586 = refl; system = refl; free_flag = refl; errors = refl; program = refl; bit_16 = refl; driver = refl; pages = refl; objects = refl; small_page = refl; large_page = refl; shift = refl; large_shift = refl }

pub returns-clause-order : goal.returns-clause-order
unfolding header_place field LxFault parts_of header_fault objects_of objects_fault page_heads pages_fault name_entry import_name import_entry at_entry gate_entry forward_entry bundle_entries object_entries bundle_of_type bundle_at spans_of spans_fault refs_of group_at group_fields many many_from next_record record_at single_at list_at target_of_kind internal_at additive_at offsets_at
returns-clause-order c =
    record { fields = refl; header = refl; objects = refl; pages = refl; names = refl; others = refl; imports = refl; entries = refl; start = refl; fix_table = refl; records = refl; cut_object = refl; bad_object = refl }
