use Rattle.std.proofs.Common.{refl}
use Rattle.lx_model.specs.Reading.{many, many_from}
use Rattle.lx_model.specs.Entries.{Entry, followed}
use Rattle.lx_model.specs.Fixed.{Fixed, Raw, page_bytes, patch_of, sources_of}
use Rattle.lx_model.specs.Iterated.{group_at, group_fields}
use Rattle.lx_model.specs.RecordFields.{target_of_kind, internal_at, additive_at, offsets_at}
use Rattle.lx_model.specs.Records.{next_record, record_at, single_at, list_at}
use Rattle.lx_model.specs.Gathering.{LibraryFault}
use Rattle.lx_model.proofs.worked.libraries_gathered.Goals as goal

pub returns-clause-gathered : goal.returns-clause-gathered
unfolding LibraryFault
returns-clause-gathered c = record { none = refl; two = refl; twice = refl; first_of_three = refl; most = refl; too_many = refl }

pub returns-clause-bytes : goal.returns-clause-bytes
unfolding Fixed Raw page_bytes patch_of sources_of Entry followed group_at group_fields many many_from next_record record_at single_at list_at target_of_kind internal_at additive_at offsets_at
returns-clause-bytes c = record { ordinal = refl; name = refl; flags = refl; byte = refl; first_page = refl }
