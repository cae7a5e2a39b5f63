use Rattle.std.proofs.Common.{map, take}
use Rattle.link_fix.specs.Shown.{shown}
use Rattle.link_fix.specs.Tables.{pairs_among}
use Rattle.link_fix.proofs.PairTables.{tables-more}
use Rattle.link_fix.proofs.tables.tables_among.Goals as goal

pub loop-q-preserved : goal.loop-q-preserved
loop-q-preserved c =
    tables-more c.add_pair.new.tables c.args.imports.now c.args.fixups.now c.loop-q.q-index _ c.loop-q-test.true
    (c.in_ok-add_pair.ensures (pairs_among c.args.imports.now (map shown (take c.loop-q.q-index c.args.fixups.now))) c.loop-q.invariant)
