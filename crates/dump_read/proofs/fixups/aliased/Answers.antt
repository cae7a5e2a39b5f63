use Rattle.dump_read.proofs.FixForms.{plain-reads, alias-reads}
use Rattle.dump_read.proofs.fixups.aliased.Goals as goal

pub returns-then-k-lt4 : goal.returns-then-k-lt4
returns-then-k-lt4 c =
    plain-reads c.one_of-k.result c.target.result c.args.reader.now c.one_of-k.new.self c.target.new.reader c.if-k-lt4.true c.one_of-k.ensures.one c.target.ensures

pub returns : goal.returns
returns c =
    alias-reads c.one_of-k.result c.one_of-k-2.result c.target-2.result c.args.reader.now c.one_of-k.new.self c.one_of-k-2.new.self c.target-2.new.reader c.if-k-lt4.false
    c.one_of-k.ensures.within c.one_of-k.ensures.one c.one_of-k-2.ensures.one c.target-2.ensures
