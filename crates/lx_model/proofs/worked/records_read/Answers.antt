use Rattle.std.proofs.Common.{refl}
use Rattle.lx_model.specs.Reading.{many, many_from}
use Rattle.lx_model.specs.RecordFields.{target_of_kind, internal_at, additive_at, offsets_at}
use Rattle.lx_model.specs.Records.{next_record, record_at, single_at, list_at}
use Rattle.lx_model.proofs.worked.records_read.Goals as goal

pub returns-clause-read : goal.returns-clause-read
unfolding next_record record_at single_at list_at target_of_kind internal_at additive_at offsets_at many many_from
returns-clause-read c = record { page_end = refl; page_start = refl; listed = refl; import = refl; wide = refl; byte_ordinal = refl; wide_ordinal = refl; word_ordinal = refl; wide_additive = refl; own = refl; selector = refl; empty_list = refl }

pub returns-clause-refused : goal.returns-clause-refused
unfolding next_record record_at single_at list_at target_of_kind internal_at additive_at offsets_at many many_from
returns-clause-refused c = record { source = refl; alias = refl; chain = refl; flags = refl; offset = refl; straddle = refl; before = refl; target = refl; in_list = refl }
