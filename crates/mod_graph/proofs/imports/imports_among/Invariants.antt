use Rattle.std.proofs.Common.{◌≡◌, ◌<◌, length, take, All}
use Rattle.std.specs.List.{filter_map}
use Rattle.lx_model.specs.Library.{library_named}
use Rattle.mod_graph.proofs.imports.imports_among.Given as goal

abbrev pub invariant-loop-name : goal.invariant-loop-name
invariant-loop-name l = (l.imports ≡ filter_map (library_named l.mods) (take l.name-index l.name-items)) × All (λ import. import < length l.mods) l.imports
