use Rattle.std.proofs.Common.{◌≡◌, ◌++◌, map, take, drop}
use Rattle.comdat_core.specs.Aside.{bare_module, lists_of}
use Rattle.comdat_core.proofs.aside.take_lists.Given as goal

abbrev pub invariant-loop-module : goal.invariant-loop-module
invariant-loop-module l =
    (l.module-items ≡ map bare_module (take l.module-index l.fn.modules) ++ drop l.module-index l.fn.modules)
    × (l.lists.items ≡ lists_of (take l.module-index l.fn.modules))
