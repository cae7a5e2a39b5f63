use Rattle.dump_read.proofs.EntryForms.{entry-reads}
use Rattle.dump_read.proofs.entries.entry.Goals as goal

pub returns : goal.returns
returns c =
    entry-reads c.number-ordinal.result c.head.result c.args.reader.now c.word.new.self c.number-ordinal.new.self c.head.new.reader c.word.ensures c.number-ordinal.ensures c.head.ensures
