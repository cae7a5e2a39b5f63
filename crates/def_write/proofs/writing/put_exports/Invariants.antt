use Rattle.std.proofs.Common.{◌≡◌, ◌++◌, map, take}
use Rattle.std.specs.List.{All}
use Rattle.lx_types.specs.Names.{IsName}
use Rattle.def_write.specs.Names.{ExportNames}
use Rattle.def_write.specs.Writing.{export_tokens, items_text}
use Rattle.def_write.proofs.writing.put_exports.Given as goal

-- The items so far are written, and their names are short.
abbrev pub invariant-loop-export : goal.invariant-loop-export
invariant-loop-export l =
    (l.out.items ≡ l.fn.out.items ++ items_text (map export_tokens (take l.export-index l.exports)))
    × All (λ s. ExportNames IsName s) (take l.export-index l.exports)
