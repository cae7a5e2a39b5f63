use Rattle.std.proofs.Common.{refl}
use Rattle.std.specs.Fmt.{digits}
use Rattle.dump_model.specs.Lines.{page_line, fix_line, import_line, entry_line, name_line}
use Rattle.dump_model.proofs.worked.lines_are_told.Goals as goal

pub returns : goal.returns
unfolding page_line fix_line import_line entry_line name_line digits
returns c = record {
  plain = refl;
  iterated = refl;
  invalid = refl;
  alias = refl;
  named = refl;
  own = refl;
  import = refl;
  at = refl;
  gate = refl;
  by_ordinal = refl;
  by_name = refl;
  name = refl;
}
