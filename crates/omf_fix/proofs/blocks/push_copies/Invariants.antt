use Rattle.std.proofs.Common.{◌≡◌, ◌++◌, ◌-◌, length, map, drop}
use Rattle.omf_fix.specs.Placed.{fix_of}
use Rattle.omf_fix.proofs.blocks.push_copies.Given as goal

abbrev pub invariant-copies : goal.invariant-copies
invariant-copies l = l.fixes ++ map (λ x. fix_of l.seg x l.place.high l.what) (drop l.next l.copies) ≡ l.initial.fixes ++ map (λ x. fix_of l.seg x l.place.high l.what) l.copies

abbrev pub decreases-copies : goal.decreases-copies
decreases-copies l = length l.copies - l.next
