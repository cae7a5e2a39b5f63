use Rattle.std.proofs.Common.{◌≡◌, map, take, Some}
use Rattle.sym_table.specs.Meanings.{meaning_by}
use Rattle.sym_table.proofs.meanings.row_by.Given as goal

abbrev pub invariant-loop-external : goal.invariant-loop-external
invariant-loop-external l =
    map Some l.row ≡ map (meaning_by l.globals l.by l.locals) (take l.external-index l.externals)
