use Rattle.std.proofs.Common.{◌≡◌, ◌++◌, take, drop}
use Rattle.comdat_core.specs.Aside.{with_lists}
use Rattle.comdat_core.proofs.aside.put_lists.Given as goal

abbrev pub invariant-loop-module : goal.invariant-loop-module
invariant-loop-module l =
    take l.module-index l.module-items ++ with_lists (drop l.module-index l.module-items) l.rest.rest.items ≡ with_lists l.fn.modules l.fn.lists.items
