use Rattle.std.proofs.Common.{take}
use Rattle.mod_graph.specs.Names.{AreIndexed}
use Rattle.mod_graph.proofs.names.indexes_of.Given as goal

abbrev pub invariant-loop-m : goal.invariant-loop-m
invariant-loop-m l = AreIndexed (take l.m-index l.mods) l.names.items
