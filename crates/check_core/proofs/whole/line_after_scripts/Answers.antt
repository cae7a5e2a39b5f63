use Rattle.std.proofs.Common.{arith}
use Rattle.check_model.specs.Places.{after_scripts}
use Rattle.check_core.proofs.MergedItems.{script_fits}
use Rattle.check_core.proofs.whole.line_after_scripts.Goals as goal

pub overflow_add-line-in-loop-script : goal.overflow_add-line-in-loop-script
overflow_add-line-in-loop-script c =
    let r = script_fits c.loop-script.line c.loop-script.script-index (after_scripts c.args.first c.args.steady.now) c.script-item.result c.args.steady.now c.as_slice.result.now c.loop-script-test.true c.script-item.is
    c.as_slice.ensures c.loop-script.invariant in
    omega (arith, r, c.requires)
