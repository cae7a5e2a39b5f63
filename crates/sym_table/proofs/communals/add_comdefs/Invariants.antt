use Rattle.std.proofs.Common.{◌≡◌, ◌++◌, map, take, filter_map}
use Rattle.link_model.specs.Symbols.{comdef_of}
use Rattle.sym_table.specs.Communals.{comdef_shown}
use Rattle.sym_table.proofs.communals.add_comdefs.Given as goal

abbrev pub invariant-loop-external : goal.invariant-loop-external
invariant-loop-external l =
    map comdef_shown l.found.items ≡ map comdef_shown l.initial.found.items ++ filter_map comdef_of (take l.external-index l.externals)
