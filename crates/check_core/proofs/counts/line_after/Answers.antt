use Rattle.std.proofs.Common.{arith}
use Rattle.check_model.specs.Places.{after_entries}
use Rattle.check_core.proofs.Judged.{entry_fits}
use Rattle.check_core.proofs.counts.line_after.Goals as goal

pub height-line-requires : goal.height-line-requires
height-line-requires c =
    let r = entry_fits c.loop-entry.line c.loop-entry.entry-index (after_entries c.args.first c.args.history.now) c.entry-item.result c.args.history.now c.loop-entry-test.true c.entry-item.is
    c.loop-entry.invariant in
    omega (arith, r, c.requires)

pub overflow_add-line : goal.overflow_add-line
overflow_add-line c =
    let r = entry_fits c.loop-entry.line c.loop-entry.entry-index (after_entries c.args.first c.args.history.now) c.entry-item.result c.args.history.now c.loop-entry-test.true c.entry-item.is
    c.loop-entry.invariant in
    omega (arith, r, c.requires, c.height-line.ensures)
