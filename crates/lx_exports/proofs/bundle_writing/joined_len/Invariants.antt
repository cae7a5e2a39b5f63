use Rattle.std.proofs.Common.{◌≡◌, ◌<◌, ◌≤◌, ◌-◌, true, length, take}
use Rattle.std.specs.List.{AllByRecursion}
use Rattle.lx_model.specs.JoinedEntries.{joins}
use Rattle.lx_exports.specs.Slots.{shown}
use Rattle.lx_exports.proofs.bundle_writing.joined_len.Given as goal

abbrev pub invariant-loop-len : goal.invariant-loop-len
invariant-loop-len l = (0 < l.len) × (l.len ≤ 255) × (l.len ≤ length l.slots) × AllByRecursion (λ t. joins (shown l.first) (shown t) ≡ true) (take l.len l.slots)

abbrev pub decreases-loop-len : goal.decreases-loop-len
decreases-loop-len l = length l.slots - l.len
