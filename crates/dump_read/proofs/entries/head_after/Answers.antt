use Rattle.std.proofs.Common.{rules}
use Rattle.dump_read.proofs.EntryForms.{at-reads, gate-reads, forward-reads}
use Rattle.dump_read.proofs.entries.head_after.Goals as goal

pub returns-in-0 : goal.returns-in-0
returns-in-0 c = at-reads c.args.k c.number-number.result c.number.result c.args.reader.now c.number-number.new.self c.number.new.self c.in-0.is c.number-number.ensures c.number.ensures

pub returns-in-1 : goal.returns-in-1
returns-in-1 c =
    gate-reads c.args.k c.number-number.result c.number-in-1.result c.args.reader.now c.number-number.new.self c.number-in-1.new.self c.in-1.is c.number-number.ensures c.number-in-1.ensures

pub returns-in_default : goal.returns-in_default
returns-in_default c =
    forward-reads c.args.k c.number-number.result c.key.result c.args.reader.now c.number-number.new.self c.key.new.reader (search rules) c.number-number.ensures c.key.ensures
