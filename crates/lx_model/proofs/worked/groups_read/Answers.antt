use Rattle.std.proofs.Common.{refl}
use Rattle.lx_model.specs.Reading.{many, many_from}
use Rattle.lx_model.specs.Iterated.{group_at, group_fields}
use Rattle.lx_model.proofs.worked.groups_read.Goals as goal

pub returns : goal.returns
unfolding group_at group_fields many many_from
returns c = record { page = refl; more = refl; second = refl; cut = refl; cut_first = refl; nothing = refl }
