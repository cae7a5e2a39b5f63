use Rattle.std.proofs.Common.{refl}
use Rattle.lx_model.specs.Reading.{many, many_from}
use Rattle.lx_model.specs.EntryTable.{at_entry, gate_entry, forward_entry, bundle_entries, object_entries, bundle_of_type, bundle_at}
use Rattle.lx_model.specs.FixupPages.{spans_of, spans_fault}
use Rattle.lx_model.specs.Header.{header_fault, header_place, field}
use Rattle.lx_model.specs.Iterated.{group_at, group_fields}
use Rattle.lx_model.specs.Module.{LxFault, parts_of, refs_of}
use Rattle.lx_model.specs.NameTables.{name_entry, import_name, import_entry}
use Rattle.lx_model.specs.RecordFields.{target_of_kind, internal_at, additive_at, offsets_at}
use Rattle.lx_model.specs.Records.{next_record, record_at, single_at, list_at}
use Rattle.lx_model.specs.Tables.{objects_of, objects_fault, page_heads, pages_fault}
use Rattle.lx_model.proofs.worked.pages_placed.Goals as goal

pub returns-clause-pages : goal.returns-clause-pages
unfolding header_place field LxFault parts_of header_fault objects_of objects_fault page_heads pages_fault name_entry import_name import_entry at_entry gate_entry forward_entry bundle_entries object_entries bundle_of_type bundle_at spans_of spans_fault refs_of group_at group_fields many many_from next_record record_at single_at list_at target_of_kind internal_at additive_at offsets_at
returns-clause-pages c = record { plain = refl; iterated = refl; shifted = refl; shifted_iterated = refl; invalid = refl; zero = refl; accepted = refl; no_data = refl; flags_4 = refl; high_flag = refl; at_end = refl; past_end = refl; empty_at_end = refl; empty_past_end = refl; iterated_past_end = refl; group_cut = refl }

pub returns-clause-targets : goal.returns-clause-targets
unfolding header_place field LxFault parts_of header_fault objects_of objects_fault page_heads pages_fault name_entry import_name import_entry at_entry gate_entry forward_entry bundle_entries object_entries bundle_of_type bundle_at spans_of spans_fault refs_of group_at group_fields many many_from next_record record_at single_at list_at target_of_kind internal_at additive_at offsets_at
returns-clause-targets c =
    record { object = refl; object_none = refl; object_past = refl; ordinal = refl; import_past = refl; name = refl; name_past = refl; name_import = refl; own = refl; own_none = refl; in_file = refl }

pub returns-clause-classes : goal.returns-clause-classes
unfolding header_place field LxFault parts_of header_fault objects_of objects_fault page_heads pages_fault name_entry import_name import_entry at_entry gate_entry forward_entry bundle_entries object_entries bundle_of_type bundle_at spans_of spans_fault refs_of group_at group_fields many many_from next_record record_at single_at list_at target_of_kind internal_at additive_at offsets_at
returns-clause-classes c = record { code = refl; own_data = refl; shared_data = refl; constants = refl }
