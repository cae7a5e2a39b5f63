use Rattle.std.proofs.Common.{refl}
use Rattle.lx_model.specs.Entries.{Entry, followed}
use Rattle.image_model.specs.World.{world_of}
use Rattle.image_model.proofs.worked.loads_have_worlds.Goals as goal

pub returns : goal.returns
unfolding Entry followed world_of
returns c = record { bases = refl; address = refl; flags = refl; by_ordinal = refl; case = refl; gate = refl; lost = refl }
