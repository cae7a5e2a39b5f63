use Rattle.dump_read.proofs.EntryForms.{head-reads}
use Rattle.dump_read.proofs.entries.head.Goals as goal

pub returns : goal.returns
returns c = head-reads c.one_of-k.result c.head_after.result c.args.reader.now c.one_of-k.new.self c.head_after.new.reader c.one_of-k.ensures.one c.head_after.ensures
