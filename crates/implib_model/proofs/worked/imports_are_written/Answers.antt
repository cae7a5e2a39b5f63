use Rattle.std.proofs.Common.{refl}
use Rattle.implib_model.proofs.worked.imports_are_written.Goals as goal

pub returns : goal.returns
returns c = record { library = refl; meant = refl; named = refl; other_name = refl; exported = refl; names = refl }
