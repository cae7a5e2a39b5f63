use Rattle.std.proofs.Common.{map, take}
use Rattle.link_fix.specs.Shown.{shown}
use Rattle.link_fix.specs.Tables.{ArePairs, pairs_among}
use Rattle.link_fix.proofs.tables.tables_among.Given as goal

abbrev pub invariant-loop-q : goal.invariant-loop-q
invariant-loop-q l = ArePairs l.tables (pairs_among l.imports (map shown (take l.q-index l.fixups)))
