use Rattle.std.proofs.Common.{refl}
use Rattle.std.specs.Fmt.{digits}
use Rattle.map_model.specs.Lines.{import_line, common_line, constant_line}
use Rattle.map_model.proofs.worked.lines_are_told.Goals as goal

pub returns : goal.returns
unfolding import_line common_line constant_line digits
returns c = record {
  ordinal = refl;
  named = refl;
  unnamed = refl;
  common = refl;
  constant = refl;
}
