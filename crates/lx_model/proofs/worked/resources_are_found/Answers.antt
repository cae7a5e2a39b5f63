use Rattle.std.proofs.Common.{refl}
use Rattle.lx_model.specs.Header.{header_place, field}
use Rattle.lx_model.specs.Resources.{resources_of, Res}
use Rattle.lx_model.proofs.worked.resources_are_found.Goals as goal

pub returns : goal.returns
unfolding header_place field resources_of Res
returns c = record { first = refl; second = refl; other_type = refl; other_id = refl; past_count = refl; first_of_two = refl; object_0 = refl; object_3 = refl; long = refl; late = refl; after_bad = refl; cut = refl; empty = refl; none = refl; no_file = refl }
