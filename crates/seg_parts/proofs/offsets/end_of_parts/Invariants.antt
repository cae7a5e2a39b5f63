use Rattle.std.proofs.Common.{◌≡◌, ◌≤◌, map, take}
use Rattle.link_model.specs.declared.limits.TheConstants.{MAX_MEMORY}
use Rattle.link_model.specs.Rows as rules
use Rattle.seg_parts.specs.Parts.{shown}
use Rattle.seg_parts.proofs.offsets.end_of_parts.Given as goal

abbrev pub invariant-loop-part : goal.invariant-loop-part
invariant-loop-part l = (l.end ≡ rules.end_of_parts l.at (map shown (take l.part-index l.parts))) × (l.end ≤ MAX_MEMORY)
