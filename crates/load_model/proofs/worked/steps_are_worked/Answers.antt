use Rattle.std.proofs.Common.{refl}
use Rattle.lx_model.specs.Fixed.{sources_of}
use Rattle.lx_model.specs.Reading.{many, many_from}
use Rattle.lx_model.specs.RecordFields.{target_of_kind, internal_at, additive_at, offsets_at}
use Rattle.lx_model.specs.Records.{next_record, record_at, single_at, list_at}
use Rattle.load_model.specs.Modules.{object_at, source_count}
use Rattle.load_model.specs.TouchSteps.{touch_steps}
use Rattle.load_model.proofs.worked.steps_are_worked.Goals as goal

pub returns : goal.returns
unfolding sources_of many many_from next_record record_at single_at list_at target_of_kind internal_at additive_at offsets_at object_at source_count touch_steps
returns c = record { own = refl; first = refl; others = refl; private = refl; second = refl }
