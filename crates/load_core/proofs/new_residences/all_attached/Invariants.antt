use Rattle.std.proofs.Common.{◌≡◌, ◌++◌, map, take}
use Rattle.std.specs.List.{AllByRecursion}
use Rattle.load_core.specs.Enters.{IsAttached}
use Rattle.load_core.specs.declared.new_residences.Attached.{Attached}
use Rattle.load_core.proofs.new_residences.all_attached.Given as goal

abbrev pub invariant-loop-k : goal.invariant-loop-k
invariant-loop-k l =
    (map (λ (a : Attached). a.«module») l.all.items ≡ take l.k-index l.joined) × AllByRecursion (IsAttached (l.table ++ l.new_residences)) l.all.items
