use Rattle.std.proofs.Common.{◌≡◌, ◌≤◌, map, take}
use Rattle.link_model.specs.Rows as rules
use Rattle.seg_parts.specs.Parts.{shown}
use Rattle.seg_parts.proofs.offsets.greatest_alignment.Given as goal

abbrev pub invariant-loop-part : goal.invariant-loop-part
invariant-loop-part l = (l.greatest ≡ rules.greatest_alignment (map shown (take l.part-index l.parts))) × (1 ≤ l.greatest) × (l.greatest ≤ 4096)
