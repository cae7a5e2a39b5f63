use Rattle.std.proofs.Common.{◌≡◌, ◌++◌, drop}
use Rattle.std.specs.List.{flat_map}
use Rattle.map_model.specs.Lines.{import_line}
use Rattle.map_core.proofs.lines.push_imports.Given as goal

abbrev pub invariant-loop-import : goal.invariant-loop-import
invariant-loop-import l = l.out.items ++ flat_map import_line (drop l.import-index l.imports) ≡ l.initial.out.items ++ flat_map import_line l.imports
