use Rattle.dump_read.proofs.HeadForms.{kind-reads}
use Rattle.dump_read.proofs.head.kind.Goals as goal

pub returns : goal.returns
returns c = kind-reads c.one_of.result c.args.reader.now c.one_of.new.self c.one_of.ensures.one
