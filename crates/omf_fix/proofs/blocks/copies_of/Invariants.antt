use Rattle.std.proofs.Common.{◌≡◌, ◌+◌, ◌++◌, ◌-◌, length, map, drop}
use Rattle.omf_fix.proofs.blocks.copies_of.Given as goal

abbrev pub invariant-places : goal.invariant-places
invariant-places l = l.copies.items ++ map (λ x. l.start + x) (drop l.next l.places) ≡ map (λ x. l.start + x) l.places

abbrev pub decreases-places : goal.decreases-places
decreases-places l = length l.places - l.next
