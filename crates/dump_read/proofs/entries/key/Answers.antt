use Rattle.std.proofs.Common.{arith}
use Rattle.dump_read.proofs.EntryForms.{ordinal-key-reads, name-key-reads}
use Rattle.dump_read.proofs.entries.key.Goals as goal

pub returns-then-one_of-eq0 : goal.returns-then-one_of-eq0
returns-then-one_of-eq0 c =
    ordinal-key-reads c.one_of.result c.number.result c.args.reader.now c.one_of.new.self c.number.new.self c.if-one_of-eq0.true c.one_of.ensures.one c.number.ensures

pub returns-else-one_of-eq0 : goal.returns-else-one_of-eq0
returns-else-one_of-eq0 c =
    name-key-reads c.one_of.result c.number-else-one_of-eq0.result c.args.reader.now c.one_of.new.self c.number-else-one_of-eq0.new.self (omega (arith, c.one_of.ensures.within, c.if-one_of-eq0.false))
    c.one_of.ensures.one c.number-else-one_of-eq0.ensures
