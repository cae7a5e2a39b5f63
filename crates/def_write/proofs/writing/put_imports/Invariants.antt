use Rattle.std.proofs.Common.{◌≡◌, ◌++◌, map, take}
use Rattle.std.specs.List.{All}
use Rattle.lx_types.specs.Names.{IsName}
use Rattle.def_write.specs.Names.{ImportNames}
use Rattle.def_write.specs.Writing.{import_tokens, items_text}
use Rattle.def_write.proofs.writing.put_imports.Given as goal

-- The items so far are written, and their names are short.
abbrev pub invariant-loop-import : goal.invariant-loop-import
invariant-loop-import l =
    (l.out.items ≡ l.fn.out.items ++ items_text (map import_tokens (take l.import-index l.imports)))
    × All (λ s. ImportNames IsName s) (take l.import-index l.imports)
