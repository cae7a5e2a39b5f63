use Rattle.std.proofs.Common.{length, ap, arith}
use Rattle.check_core.proofs.Judged.{heading_step, heading_room}
use Rattle.check_core.proofs.headings.+heading_fault.Goals as goal

pub overflow_add-first : goal.overflow_add-first
overflow_add-first t c =
    let r = heading_room c.args.first c.args.steady.now c.in-Some.told.now c.in-Some.more.now c.in-Some.ensures.cases.0 in
    omega (arith, r, c.requires)

pub overflow_add-first-2 : goal.overflow_add-first-2
overflow_add-first-2 t c =
    let r = heading_room c.args.first c.args.steady.now c.in-Some.told.now c.in-Some.more.now c.in-Some.ensures.cases.0 in
    omega (arith, r, c.requires, ap length c.as_slice.ensures)

pub returns : goal.returns
returns t c j told =
    heading_step j told c.args.first c.args.steady.now c.args.scripts.now c.in-Some.told.now c.in-Some.more.now c.in-Some-split_first.script.now c.in-Some-split_first.later.now
    c.heading_fault.result c.in-Some.ensures.cases.0 c.in-Some-split_first.ensures.cases.0 c.if-told-script.false c.as_slice.result.now c.as_slice.ensures (c.heading_fault.ensures j told)
