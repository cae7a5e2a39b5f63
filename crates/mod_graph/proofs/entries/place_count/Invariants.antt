use Rattle.std.proofs.Common.{◌≡◌, ◌+◌, sum_by, length, take}
use Rattle.lx_types.specs.declared.parts.Parts.{Parts}
use Rattle.mod_graph.proofs.entries.place_count.Given as goal

abbrev pub invariant-loop-m : goal.invariant-loop-m
invariant-loop-m l = l.places ≡ sum_by (λ (m : Parts). length m.entries) (take l.m-index l.mods) + 1
