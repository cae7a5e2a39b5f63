use Rattle.dump_read.proofs.EntryForms.{name-reads}
use Rattle.dump_read.proofs.entries.named.Goals as goal

pub returns : goal.returns
returns c =
    name-reads c.in_ok-name.name c.number.result c.args.reader.now c.word.new.self c.name.new.self c.number.new.self c.word.ensures c.in_ok-name.ensures c.number.ensures
