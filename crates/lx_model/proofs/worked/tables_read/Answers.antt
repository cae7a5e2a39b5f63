use Rattle.std.proofs.Common.{refl}
use Rattle.lx_model.specs.Reading.{many, many_from}
use Rattle.lx_model.specs.NameTables.{name_entry, import_name, import_entry}
use Rattle.lx_model.specs.EntryTable.{at_entry, gate_entry, forward_entry, bundle_entries, object_entries, bundle_of_type, bundle_at}
use Rattle.lx_model.proofs.worked.tables_read.Goals as goal

pub returns-clause-names : goal.returns-clause-names
unfolding name_entry import_name import_entry many many_from
returns-clause-names c = record { names = refl; none = refl; no_length = refl; no_name = refl; no_ordinal = refl; imports = refl; empty = refl }

pub returns-clause-entries : goal.returns-clause-entries
unfolding at_entry gate_entry forward_entry bundle_entries object_entries bundle_of_type bundle_at many many_from
returns-clause-entries c = record { entries = refl; gate = refl; most = refl; one_more = refl; kind = refl; object = refl; import = refl; cut = refl; no_end = refl }
