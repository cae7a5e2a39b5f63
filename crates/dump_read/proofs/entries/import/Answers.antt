use Rattle.dump_read.proofs.EntryForms.{import-reads}
use Rattle.dump_read.proofs.entries.import.Goals as goal

pub returns : goal.returns
returns c =
    import-reads c.args.number c.in_ok-name.name c.args.reader.now c.word.new.self c.count.new.self c.name.new.self c.word.ensures c.count.ensures c.in_ok-name.ensures
