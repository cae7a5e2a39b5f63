use Rattle.std.proofs.Common.{◌≡◌, ◌++◌}
use Rattle.comdat_core.specs.Keeping.{without_lists}
use Rattle.comdat_core.proofs.keeping.kept_modules.Given as goal

abbrev pub invariant-loop-object : goal.invariant-loop-object
invariant-loop-object l =
    l.kept ++ without_lists l.object-iterator.a.rest.now l.object-iterator.b.rest.now ≡ without_lists l.modules l.taken
