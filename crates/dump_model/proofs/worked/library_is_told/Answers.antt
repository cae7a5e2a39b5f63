use Rattle.std.proofs.Common.{refl}
use Rattle.std.specs.Fmt.{digits}
use Rattle.dump_model.specs.Lines.{module_line, object_line, page_line, fix_line}
use Rattle.dump_model.specs.Dumps.{Dump, object_lines, page_lines}
use Rattle.dump_model.proofs.worked.library_is_told.Goals as goal

pub returns : goal.returns
unfolding Dump object_lines page_lines module_line object_line page_line fix_line digits
returns c = refl
