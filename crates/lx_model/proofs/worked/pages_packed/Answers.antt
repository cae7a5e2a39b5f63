use Rattle.std.proofs.Common.{refl}
use Rattle.lx_model.proofs.worked.pages_packed.Goals as goal

pub returns : goal.returns
returns c = record { pattern = refl; same = refl; zeros = refl; shortest = refl; runs = refl; eight = refl; once = refl; longer = refl }
