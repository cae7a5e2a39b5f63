use Rattle.std.proofs.Common.{arith}
use Rattle.omf_write.specs.declared.libraries.TheConstants.{LIBRARY_LIMIT}
use Rattle.omf_write.proofs.ImportPages.{too_many}
use Rattle.omf_write.proofs.import_libraries.len_of.Goals as goal

pub returns-then-len-limit : goal.returns-then-len-limit
returns-then-len-limit c =
    let limit = c.from-limit.ensures in
    let over = c.if-len-limit.true in
    too_many c.args.imports.now c.loop-import.import-index LIBRARY_LIMIT c.loop-import.len c.import_len-size.result c.fill_of.result c.import-item.result c.loop-import-test.true c.import-item.is
    c.import_len-size.ensures.is c.fill_of.ensures c.loop-import.invariant.0 (omega (arith, limit, over))
