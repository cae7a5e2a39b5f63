use Rattle.std.proofs.Common.{◌≡◌, ◌+◌, map, length}
use Rattle.lx_types.specs.declared.limits.TheConstants.{MAX_PROCESSES}
use Rattle.check_core.specs.ToldItems.{item_of}
use Rattle.check_core.proofs.NextItems.{AreLatest, AreNextFrom}
use Rattle.check_core.proofs.ahead.next_items.Given as goal

abbrev pub invariant-loop-place : goal.invariant-loop-place
invariant-loop-place l =
    (length l.next.items ≡ length l.items) × (length l.latest.items ≡ MAX_PROCESSES + 1) × AreLatest (map item_of l.items) l.latest.items l.place × AreNextFrom (map item_of l.items) l.next.items l.place
