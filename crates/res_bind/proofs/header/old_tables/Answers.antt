use Rattle.res_bind.proofs.Headers.{head_is, shift_of}
use Rattle.res_bind.proofs.header.old_tables.Goals as goal

pub tables_of-requires : goal.tables_of-requires
tables_of-requires c =
    let read = c.in-Ok.ensures in
    shift_of c.args.file.now c.in-Ok.head (head_is c.args.file.now c.in-Ok.head c.requires.short read.0 read.1 read.2)

pub returns : goal.returns
returns c =
    let read = c.in-Ok.ensures in
    c.tables_of.ensures c.args.file.now (head_is c.args.file.now c.in-Ok.head c.requires.short read.0 read.1 read.2)
