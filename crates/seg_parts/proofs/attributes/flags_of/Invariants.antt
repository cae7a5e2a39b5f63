use Rattle.std.proofs.Common.{◌≡◌, map, take}
use Rattle.seg_parts.specs.Parts.{shown}
use Rattle.seg_parts.specs.Attributes.{flags_in}
use Rattle.seg_parts.proofs.attributes.flags_of.Given as goal

abbrev pub invariant-loop-part : goal.invariant-loop-part
invariant-loop-part l = l.flags.items ≡ map (flags_in l.def) (map shown (take l.part-index l.parts))
