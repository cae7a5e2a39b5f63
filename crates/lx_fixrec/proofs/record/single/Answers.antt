use Rattle.lx_fixrec.specs.Reads.{kind_of}
use Rattle.lx_fixrec.proofs.Offsets.{single_read, single_good}
use Rattle.lx_fixrec.proofs.record.single.Goals as goal

pub returns-clause-read : goal.returns-clause-read
returns-clause-read c =
    single_read (kind_of c.args.kind) c.args.flags c.args.fields.now c.offset.new.fields c.target.new.fields c.additive.new.fields c.fork-offsets.result c.in_ok-offset.field-0 c.in_ok-target.target c.in_ok-additive.additive c.fork-offsets.ensures
    c.in_ok-offset.ensures c.in_ok-target.ensures c.in_ok-additive.ensures

pub returns-clause-good : goal.returns-clause-good
returns-clause-good c = single_good c.args.kind.source c.args.fields.now c.offset.new.fields c.fork-offsets.result c.in_ok-offset.field-0 c.fork-offsets.ensures c.in_ok-offset.ensures
