use Rattle.std.proofs.Common.{◌≡◌, ◌+◌, length, drop}
use Rattle.load_core.specs.Enters.{AreNumbered, kept_from}
use Rattle.load_core.proofs.new_residences.keep_from.Given as goal

-- those from this place on are still to be kept
abbrev pub invariant-loop-place : goal.invariant-loop-place
invariant-loop-place l =
    (length l.table ≡ length l.initial.table)
    × (kept_from l.initial.keeper.name l.place l.table ≡ kept_from l.initial.keeper.name l.first l.initial.table)
    × AreNumbered l.keeper.given (drop l.place l.table)
    × (l.keeper ≡ record l.initial.keeper { given = l.keeper.given })
    × (l.keeper.given + l.first ≡ l.initial.keeper.given + l.place)
