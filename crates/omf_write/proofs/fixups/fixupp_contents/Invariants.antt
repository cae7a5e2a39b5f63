use Rattle.std.proofs.Common.{◌≡◌, take}
use Rattle.std.specs.List.{flat_map}
use Rattle.omf_write.specs.ObjectBytes.{fixup_bytes}
use Rattle.omf_write.proofs.fixups.fixupp_contents.Given as goal

abbrev pub invariant-loop-fix : goal.invariant-loop-fix
invariant-loop-fix l = l.contents.items ≡ flat_map (fixup_bytes l.from) (take l.fix-index l.fixes)
