use Rattle.std.proofs.Common.{refl}
use Rattle.image_model.proofs.Rules.{reading}
use Rattle.image_model.proofs.worked.files_read_again.Goals as goal

pub returns-clause-parts : goal.returns-clause-parts
unfolding reading
returns-clause-parts c = record {
  object_read = record { faultless = refl; parts = refl };
  program_read = record { faultless = refl; parts = refl };
  forwarder_read = record { faultless = refl; parts = refl };
  iterated_read = record { faultless = refl; parts = refl };
  straddling_read = record { faultless = refl; parts = refl };
}

pub returns-clause-bytes : goal.returns-clause-bytes
unfolding reading
returns-clause-bytes c = record { object_bytes = refl; object_moved = refl; iterated_bytes = refl; straddling_bytes = refl; import_bytes = refl }
