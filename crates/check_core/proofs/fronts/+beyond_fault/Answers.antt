use Rattle.std.proofs.Common.{◌+◌, length, subst, ap, arith}
use Rattle.check_model.specs.Places.{lines_beyond, numbered_lines}
use Rattle.check_core.specs.Judged.{IsJudged}
use Rattle.check_core.proofs.Judged.{heading_room, beyond_here, beyond_later}
use Rattle.check_core.proofs.fronts.+beyond_fault.Goals as goal

pub overflow_add-first : goal.overflow_add-first
overflow_add-first t c =
    let r = heading_room c.args.first c.args.steady.now c.in-Some.told.now c.in-Some.more.now c.in-Some.ensures.cases.0 in
    omega (arith, r, c.requires)

pub line_beyond-requires : goal.line_beyond-requires
line_beyond-requires t c =
    let r = heading_room c.args.first c.args.steady.now c.in-Some.told.now c.in-Some.more.now c.in-Some.ensures.cases.0 in
    omega (arith, r, c.requires, ap length c.as_slice-lines.ensures)

pub returns-in-Some-line_beyond : goal.returns-in-Some-line_beyond
returns-in-Some-line_beyond t c j told pid is =
    beyond_here j told pid c.args.first c.args.most c.args.steady.now c.in-Some.told.now c.in-Some.more.now c.in-Some-line_beyond.fault c.in-Some.ensures.cases.0
    c.as_slice-lines.result.now c.as_slice-lines.ensures
    (λ under. subst (λ r. IsJudged j told (lines_beyond c.args.most (pid, numbered_lines (c.args.first + 1) under c.as_slice-lines.result.now)) r) c.in-Some-line_beyond.is
    (c.line_beyond.ensures j told pid under is))

pub overflow_add-first-2 : goal.overflow_add-first-2
overflow_add-first-2 t c =
    let r = heading_room c.args.first c.args.steady.now c.in-Some.told.now c.in-Some.more.now c.in-Some.ensures.cases.0 in
    omega (arith, r, c.requires)

pub overflow_add-first-3 : goal.overflow_add-first-3
overflow_add-first-3 t c =
    let r = heading_room c.args.first c.args.steady.now c.in-Some.told.now c.in-Some.more.now c.in-Some.ensures.cases.0 in
    omega (arith, r, c.requires, ap length c.as_slice-lines.ensures)

pub returns : goal.returns
returns t c j told pid is =
    beyond_later j told pid c.args.first c.args.most c.args.steady.now c.in-Some.told.now c.in-Some.more.now c.beyond_fault.result c.in-Some.ensures.cases.0 c.as_slice-lines.result.now
    c.as_slice-lines.ensures
    (λ under. subst (λ r. IsJudged j told (lines_beyond c.args.most (pid, numbered_lines (c.args.first + 1) under c.as_slice-lines.result.now)) r) c.in_default-line_beyond.is
    (c.line_beyond.ensures j told pid under is))
    (c.beyond_fault.ensures j told (pid + 1) is)
