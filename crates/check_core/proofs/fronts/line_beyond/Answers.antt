use Rattle.std.proofs.Common.{◌+◌, Some, None}
use Rattle.check_model.specs.declared.kinds.CheckKind.TheVariants as kinds
use Rattle.check_core.proofs.Judged.{lines_from_first, line_beyond_at, line_within_at, none_left}
use Rattle.check_core.proofs.fronts.line_beyond.Goals as goal

pub loop-place-init : goal.loop-place-init
loop-place-init c j t pid low answer is h = lines_from_first j t pid c.args.first low c.args.most c.args.lines.now answer h

pub returns-then-line-most : goal.returns-then-line-most
returns-then-line-most c j t pid low is =
    c.loop-place.invariant j t pid low (Some (record { line = c.args.first + c.loop-place.place; kind = kinds.Front })) is
    (λ under. line_beyond_at j t pid c.args.first under c.args.most c.loop-place.place c.index-lines-place.result c.args.lines.now is c.loop-place-test.true c.index-lines-place.is c.if-line-most.true)

pub loop-place-preserved : goal.loop-place-preserved
loop-place-preserved c j t pid low answer is h =
    c.loop-place.invariant j t pid low answer is
    (λ under. line_within_at j t pid c.args.first under c.args.most c.loop-place.place c.index-lines-place.result c.args.lines.now answer is c.loop-place-test.true c.index-lines-place.is c.if-line-most.false h)

pub returns : goal.returns
returns c j t pid low is =
    c.loop-place.invariant j t pid low None is
    (λ under. none_left j t pid c.args.first under c.args.most c.loop-place.place c.args.lines.now c.loop-place-test.false)
