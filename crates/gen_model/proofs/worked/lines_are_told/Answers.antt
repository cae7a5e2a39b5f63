use Rattle.std.proofs.Common.{refl}
use Rattle.std.specs.Fmt.{digits}
use Rattle.gen_model.proofs.worked.lines_are_told.Goals as goal

pub returns : goal.returns
unfolding digits
returns c = record { word = refl; line = refl }
