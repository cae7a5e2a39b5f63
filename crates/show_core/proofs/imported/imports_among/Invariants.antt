use Rattle.std.proofs.Common.{◌≡◌, count_by, length, take}
use Rattle.show_model.specs.Lists.{is_import}
use Rattle.show_core.proofs.imported.imports_among.Given as goal

abbrev pub invariant-loop-target : goal.invariant-loop-target
invariant-loop-target l = length l.imports.items ≡ count_by is_import (take l.target-index l.refs)
