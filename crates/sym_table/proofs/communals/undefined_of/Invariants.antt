use Rattle.std.proofs.Common.{◌≡◌, map, take, filter, is_none}
use Rattle.name_table.specs.Entries.{value_named}
use Rattle.sym_table.specs.Communals.{comdef_shown}
use Rattle.sym_table.proofs.communals.undefined_of.Given as goal

abbrev pub invariant-loop-comdef : goal.invariant-loop-comdef
invariant-loop-comdef l =
    map comdef_shown l.found.items ≡ filter (λ c. is_none (value_named c.0 l.table)) (map comdef_shown (take l.comdef-index l.comdefs))
