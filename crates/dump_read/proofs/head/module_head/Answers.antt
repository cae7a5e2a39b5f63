use Rattle.dump_read.proofs.HeadForms.{module-reads}
use Rattle.dump_read.proofs.head.module_head.Goals as goal

pub returns : goal.returns
returns c =
    module-reads _ c.args.reader.now c.word.new.self c.name.new.self c.kind-library.new.reader c.word-2.new.self c.flags-flags.new.self c.word-3.new.self c.start-start.new.reader
    c.word.ensures c.in_ok-name.ensures c.kind-library.ensures c.word-2.ensures c.flags-flags.ensures c.word-3.ensures c.start-start.ensures
