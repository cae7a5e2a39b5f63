use Rattle.std.proofs.Common.{refl}
use Rattle.std.specs.Fmt.{digits}
use Rattle.answer_model.proofs.worked.line_files_are_asked.Goals as goal

pub returns : goal.returns
unfolding digits
returns c = record { files = refl; many = refl; twice = refl }
