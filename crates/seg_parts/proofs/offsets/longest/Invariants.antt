use Rattle.std.proofs.Common.{◌≡◌, map, take}
use Rattle.link_model.specs.Rows as rules
use Rattle.seg_parts.specs.Parts.{shown}
use Rattle.seg_parts.proofs.offsets.longest.Given as goal

abbrev pub invariant-loop-part : goal.invariant-loop-part
invariant-loop-part l = l.longest ≡ rules.longest (map shown (take l.part-index l.parts))
