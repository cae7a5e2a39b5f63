use Rattle.std.proofs.Common.{◌≡◌, ◌≤◌, ◌-◌, ◌++◌, length, drop, map}
use Rattle.std.specs.List.{flat_map}
use Rattle.lx_model.specs.Bundles.{bundle_spelling}
use Rattle.lx_exports.specs.Slots.{shown, bundles_of}
use Rattle.lx_exports.proofs.bundle_writing.entry_table.Given as goal

abbrev pub invariant-loop-at : goal.invariant-loop-at
invariant-loop-at l =
    (l.at ≤ length l.slots)
    × (l.out.items ++ flat_map bundle_spelling (bundles_of (map shown (drop l.at l.slots))) ≡ flat_map bundle_spelling (bundles_of (map shown l.slots)))

abbrev pub decreases-loop-at : goal.decreases-loop-at
decreases-loop-at l = length l.slots - l.at
