use Rattle.std.proofs.Common.{◌≡◌, Some, None, map, take}
use Rattle.sym_table.specs.Meanings.{rows_in, missing_external_in}
use Rattle.sym_table.proofs.all.meanings_of.Given as goal

abbrev pub invariant-loop-index : goal.invariant-loop-index
invariant-loop-index l =
    (map (map Some) l.rows ≡ rows_in l.globals (map (λ m. m.now) (take l.index l.modules)))
    × (missing_external_in l.globals (map (λ m. m.now) (take l.index l.modules)) ≡ None)
