use Rattle.std.proofs.Common.{rules}
use Rattle.dump_read.proofs.FixForms.{internal-reads, ordinal-reads, named-reads, own-reads}
use Rattle.dump_read.proofs.fixups.target.Goals as goal

pub returns-in-0 : goal.returns-in-0
returns-in-0 c = internal-reads c.args.k c.number-number.result c.number.result c.args.reader.now c.number-number.new.self c.number.new.self c.in-0.is c.number-number.ensures c.number.ensures

pub returns-in-1 : goal.returns-in-1
returns-in-1 c =
    ordinal-reads c.args.k c.number-number.result c.number-in-1.result c.args.reader.now c.number-number.new.self c.number-in-1.new.self c.in-1.is c.number-number.ensures c.number-in-1.ensures

pub returns-in-2 : goal.returns-in-2
returns-in-2 c =
    named-reads c.args.k c.number-number.result c.number-in-2.result c.args.reader.now c.number-number.new.self c.number-in-2.new.self c.in-2.is c.number-number.ensures c.number-in-2.ensures

pub returns-in_default : goal.returns-in_default
returns-in_default c = own-reads c.args.k c.number-number.result c.args.reader.now c.number-number.new.self (search rules) c.number-number.ensures
