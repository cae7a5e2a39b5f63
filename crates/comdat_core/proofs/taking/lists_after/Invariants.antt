use Rattle.std.proofs.Common.{◌≡◌, List, length, take}
use Rattle.obj_types.specs.declared.object.ObjModule.{ObjModule}
use Rattle.comdat_core.specs.Taking.{owned_in, AreFirsts, AreSeen}
use Rattle.comdat_core.proofs.taking.lists_after.Given as goal

abbrev pub invariant-loop-index : goal.invariant-loop-index
invariant-loop-index l =
    (before : List ObjModule) → length before ≡ l.first → AreFirsts (owned_in before) l.initial.table → AreSeen before (take l.index l.modules) l.table l.lists.items
