use Rattle.dump_read.proofs.ObjectForms.{plain-reads, iterated-reads}
use Rattle.dump_read.proofs.objects.data_after.Goals as goal

pub returns-in-0 : goal.returns-in-0
returns-in-0 c = plain-reads c.args.k c.number.result c.number-in-0.result c.args.reader.now c.number.new.self c.number-in-0.new.self c.in-0.is c.number.ensures c.number-in-0.ensures

pub returns-in-1 : goal.returns-in-1
returns-in-1 c =
    iterated-reads c.args.k c.number-in-1.result c.number-in-1-2.result c.args.reader.now c.number-in-1.new.self c.number-in-1-2.new.self c.in-1.is c.number-in-1.ensures c.number-in-1-2.ensures
