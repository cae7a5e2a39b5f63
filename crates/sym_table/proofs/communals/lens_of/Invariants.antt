use Rattle.std.proofs.Common.{◌≡◌, map, take, ℕ, List, unwrap_or}
use Rattle.name_table.specs.Entries.{value_named}
use Rattle.sym_table.specs.Communals.{comdef_shown, greatest_of}
use Rattle.sym_table.proofs.communals.lens_of.Given as goal

abbrev pub invariant-loop-comdef : goal.invariant-loop-comdef
invariant-loop-comdef l =
    (name : List ℕ) → unwrap_or (value_named name l.lens) 0 ≡ greatest_of (map comdef_shown (take l.comdef-index l.comdefs)) name
