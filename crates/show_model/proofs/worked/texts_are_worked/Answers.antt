use Rattle.std.proofs.Common.{refl}
use Rattle.std.specs.Fmt.{digits}
use Rattle.show_model.proofs.worked.texts_are_worked.Goals as goal

pub returns : goal.returns
unfolding digits
returns c = record { two = refl; escaped = refl; nothing = refl }
