use Rattle.std.proofs.Common.{arith}
use Rattle.check_model.specs.Places.{after_scripts}
use Rattle.check_core.proofs.MergedItems.{script_fits}
use Rattle.check_core.proofs.lines.all_lines.Goals as goal

pub overflow_add-heading : goal.overflow_add-heading
overflow_add-heading c =
    let r = script_fits c.loop-place.heading c.loop-place.place (after_scripts c.args.first c.args.steady.now) c.index-steady-place.result c.args.steady.now c.as_slice-lines.result.now c.loop-place-test.true
    c.index-steady-place.is c.as_slice-lines.ensures c.loop-place.invariant.1 in
    omega (arith, r, c.requires.room)

pub push_script-requires : goal.push_script-requires
push_script-requires c =
    let r = script_fits c.loop-place.heading c.loop-place.place (after_scripts c.args.first c.args.steady.now) c.index-steady-place.result c.args.steady.now c.as_slice-lines.result.now c.loop-place-test.true
    c.index-steady-place.is c.as_slice-lines.ensures c.loop-place.invariant.1 in
    omega (arith, r, c.requires.room)

pub overflow_add-heading-in-loop-place-2 : goal.overflow_add-heading-in-loop-place-2
overflow_add-heading-in-loop-place-2 c =
    let r = script_fits c.loop-place.heading c.loop-place.place (after_scripts c.args.first c.args.steady.now) c.index-steady-place.result c.args.steady.now c.as_slice-lines.result.now c.loop-place-test.true
    c.index-steady-place.is c.as_slice-lines.ensures c.loop-place.invariant.1 in
    omega (arith, r, c.requires.room)
