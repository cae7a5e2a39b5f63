use Rattle.dump_read.proofs.ObjectForms.{page-reads}
use Rattle.dump_read.proofs.objects.page_head.Goals as goal

pub returns : goal.returns
returns c =
    page-reads c.args.object c.args.page c.«data».result c.args.reader.now c.word.new.self c.count.new.self c.count-2.new.self c.«data».new.reader c.word.ensures c.count.ensures
    c.count-2.ensures c.«data».ensures
