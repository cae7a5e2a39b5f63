use Rattle.std.proofs.Common.{◌≡◌, length, map}
use Rattle.std.specs.List.{range_with_len}
use Rattle.lx_model.specs.Reach.{imports_of}
use Rattle.mod_graph.specs.Visiting.{AreWithin}
use Rattle.mod_graph.proofs.imports.graph_of.Given as goal

abbrev pub invariant-loop-m : goal.invariant-loop-m
invariant-loop-m l = (l.graph.items ≡ map (imports_of l.mods) (range_with_len 0 l.m-index)) × AreWithin (length l.mods) l.graph.items
