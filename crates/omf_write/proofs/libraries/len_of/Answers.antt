use Rattle.std.proofs.Common.{arith, length, ap}
use Rattle.omf_write.specs.declared.libraries.TheConstants.{LIBRARY_LIMIT}
use Rattle.omf_write.proofs.LibraryRead.{too_long}
use Rattle.omf_write.proofs.libraries.len_of.Goals as goal

pub returns-then-len-limit : goal.returns-then-len-limit
returns-then-len-limit c =
    let limit = c.from-limit.ensures in
    let over = c.if-len-limit.true in
    too_long c.args.modules.now c.loop-own.own-index LIBRARY_LIMIT c.loop-own.len (length c.as_slice-size.result.now) c.fill_of.result c.own-item.result c.loop-own-test.true c.own-item.is
    (ap length c.as_slice-size.ensures) c.fill_of.ensures c.loop-own.invariant.0 (omega (arith, limit, over))
