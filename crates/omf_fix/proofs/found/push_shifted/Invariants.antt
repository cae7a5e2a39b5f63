use Rattle.std.proofs.Common.{◌≡◌, ◌-◌, ◌≤◌, ◌++◌, take, drop}
use Rattle.omf_fix.proofs.Shifted.{moved}
use Rattle.omf_fix.proofs.found.push_shifted.Given as goal

abbrev pub invariant-places : goal.invariant-places
invariant-places l = (l.places.items ≡ l.initial.places.items ++ moved l.shift (take (l.next - l.start) (drop l.start l.initial.places.items))) × (l.start ≤ l.next) × (l.next ≤ l.end)

abbrev pub decreases-places : goal.decreases-places
decreases-places l = l.end - l.next
