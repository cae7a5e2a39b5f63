use Rattle.dump_read.proofs.ObjectForms.{data-reads}
use Rattle.dump_read.proofs.objects.data.Goals as goal

pub returns : goal.returns
returns c = data-reads c.one_of-k.result c.data_after.result c.args.reader.now c.one_of-k.new.self c.data_after.new.reader c.one_of-k.ensures.one c.data_after.ensures
