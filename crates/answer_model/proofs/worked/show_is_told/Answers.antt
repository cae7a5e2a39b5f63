use Rattle.std.proofs.Common.{refl}
use Rattle.std.specs.Fmt.{digits}
use Rattle.answer_model.proofs.worked.show_is_told.Goals as goal

pub returns : goal.returns
unfolding digits
returns c = record { words = refl; no_file = refl; two_files = refl; whole = refl; faulty = refl }
