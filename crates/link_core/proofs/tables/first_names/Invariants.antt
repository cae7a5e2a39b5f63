use Rattle.std.proofs.Common.{take, bytes_eq}
use Rattle.link_model.specs.Appearance.{firsts}
use Rattle.link_fix.specs.Tables.{AreFirst}
use Rattle.link_core.proofs.tables.first_names.Given as goal

abbrev pub invariant-loop-name : goal.invariant-loop-name
invariant-loop-name l = AreFirst l.table (firsts bytes_eq (take l.name-index l.names))
