use Rattle.std.proofs.Common.{◌≡◌, take}
use Rattle.dump_core.proofs.listed.copied_ordinals.Given as goal

abbrev pub invariant-loop-named : goal.invariant-loop-named
invariant-loop-named l = l.copies.items ≡ take l.named-index l.names
