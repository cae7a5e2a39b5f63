use Rattle.std.proofs.Common.{◌≡◌, map, take}
use Rattle.link_model.specs.Symbols.{comdefs}
use Rattle.link_types.specs.Links.{link_with}
use Rattle.sym_table.specs.Communals.{comdef_shown}
use Rattle.sym_table.proofs.communals.comdefs_of.Given as goal

abbrev pub invariant-loop-object : goal.invariant-loop-object
invariant-loop-object l =
    map comdef_shown l.found.items ≡ comdefs (link_with l.input (take l.object-index l.modules))
