use Rattle.std.proofs.Common.{◌≡◌, ◌-◌, length, drop}
use Rattle.std.specs.List.{list_any}
use Rattle.omf_model.specs.Fixups.{touches}
use Rattle.omf_data.specs.Marks.{HaveAll}
use Rattle.omf_fix.proofs.blocks.meets_copies.Given as goal

abbrev pub invariant-copies : goal.invariant-copies
invariant-copies l = record {
  marks : HaveAll l.marks l.parts;
  rest : list_any (λ x. list_any (touches l.seg x l.size) l.parts.module.fixes) (drop l.next l.copies) ≡ list_any (λ x. list_any (touches l.seg x l.size) l.parts.module.fixes) l.copies;
}

abbrev pub decreases-copies : goal.decreases-copies
decreases-copies l = length l.copies - l.next
