use Rattle.std.proofs.Common.{◌≡◌, ◌+◌, ◌++◌, map, drop}
use Rattle.check_model.specs.Places.{numbered_scripts, numbered_from, numbered_merge, after_entries}
use Rattle.check_core.specs.ToldItems.{item_shown}
use Rattle.check_core.proofs.merged.merged_items.Given as goal

abbrev pub invariant-loop-place : goal.invariant-loop-place
invariant-loop-place l =
    (map item_shown l.items.items ++ numbered_from (numbered_scripts 1 l.fn.first l.fn.told.steady.now) (l.place + 1) l.number (drop l.place l.fn.told.history.now)
    ≡ numbered_merge (numbered_scripts 1 l.fn.first l.fn.told.steady.now) l.fn.told.history.now)
    × (after_entries l.number (drop l.place l.fn.told.history.now) ≡ after_entries 2 l.fn.told.history.now)
