use Rattle.std.proofs.Common.{refl}
use Rattle.std.specs.Fmt.{digits}
use Rattle.gen_model.specs.Modules.{gen_object}
use Rattle.gen_model.proofs.worked.modules_are_made.Goals as goal

pub returns : goal.returns
unfolding digits gen_object
returns c =
    record {
      first = refl;
      before = refl;
      own = refl;
      last = refl;
      no_externals = refl;
      no_imports = refl;
      externals = refl;
      imports = refl;
      publics = refl;
      pieces = refl;
      definition = refl;
    }
