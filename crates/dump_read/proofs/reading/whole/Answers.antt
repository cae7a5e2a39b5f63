use Rattle.dump_read.proofs.WholeForms.{dump-reads}
use Rattle.dump_read.proofs.reading.whole.Goals as goal

pub returns : goal.returns
returns c =
    dump-reads c.in_ok-head.head c.in_ok-objects.objects c.in_ok-imports.imports c.in_ok-entries.entries c.in_ok-names.names c.args.reader.now c.module_head.new.reader
    c.objects.new.reader c.imports.new.reader c.entries.new.reader c.names.new.reader c.word.new.self c.in_ok-head.ensures c.in_ok-objects.ensures c.in_ok-imports.ensures
    c.in_ok-entries.ensures c.in_ok-names.ensures c.word.ensures
