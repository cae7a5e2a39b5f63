use Rattle.std.proofs.Common.{◌≡◌, ◌++◌, drop}
use Rattle.std.specs.List.{flat_map}
use Rattle.show_model.specs.Lists.{object_lists}
use Rattle.show_model.specs.Outlines.{tallies}
use Rattle.show_core.proofs.libraries.add_members.Given as goal

abbrev pub invariant-loop-m : goal.invariant-loop-m
invariant-loop-m l = tallies l.out.items ++ flat_map object_lists (drop l.m-index l.modules) ≡ tallies l.initial.out.items ++ flat_map object_lists l.modules
