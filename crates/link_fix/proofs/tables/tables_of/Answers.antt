use Rattle.std.proofs.Common.{rules}
use Rattle.link_fix.proofs.PairTables.{none-named}
use Rattle.link_fix.proofs.tables.tables_of.Goals as goal

pub returns-then-is_empty : goal.returns-then-is_empty
returns-then-is_empty c = none-named c.new.result c.args.imports.now c.args.fixups.now (search rules) c.new.ensures
