use Rattle.dump_read.proofs.ObjectForms.{object-reads}
use Rattle.dump_read.proofs.objects.object_head.Goals as goal

pub returns : goal.returns
returns c =
    object-reads c.args.number _ c.args.reader.now c.word.new.self c.count.new.self c.word-2.new.self c.number-size.new.self c.word-3.new.self c.flags-base.new.self c.word-4.new.self
    c.flags-flags.new.self c.word-5.new.self c.number-count.new.self c.word.ensures c.count.ensures c.word-2.ensures c.number-size.ensures c.word-3.ensures
    c.flags-base.ensures c.word-4.ensures c.flags-flags.ensures c.word-5.ensures c.number-count.ensures
