use Rattle.std.proofs.Common.{refl}
use Rattle.lx_model.specs.Reading.{many, many_from}
use Rattle.lx_model.specs.Entries.{Entry, followed}
use Rattle.lx_model.specs.Fixed.{Fixed, Raw, page_bytes, patch_of, sources_of}
use Rattle.lx_model.specs.Iterated.{group_at, group_fields}
use Rattle.lx_model.specs.Reach.{Order, visit, HealthOf}
use Rattle.lx_model.specs.RecordFields.{target_of_kind, internal_at, additive_at, offsets_at}
use Rattle.lx_model.specs.Records.{next_record, record_at, single_at, list_at}
use Rattle.lx_model.proofs.worked.library_means.Goals as goal

pub returns : goal.returns
unfolding Fixed Raw page_bytes patch_of sources_of Entry followed group_at group_fields many many_from next_record record_at single_at list_at target_of_kind internal_at additive_at offsets_at Order visit HealthOf
returns c = record { named = refl; value = refl; order = refl; fit = refl; loop = refl; comes_back = refl; case = refl; lost = refl; program = refl; no_entry = refl; gate = refl }
