use Rattle.std.proofs.Common.{◌∙◌, ap, sym, Some}
use Rattle.link_model.specs.declared.refusals.LayRefusal.{LayRefusal}
use Rattle.seg_merge.proofs.SplitMarks.{marks-end, marks-go-on}
use Rattle.seg_merge.proofs.splits.check_marks.Goals as goal

pub returns-then-split-place : goal.returns-then-split-place
returns-then-split-place c =
    marks-end c.args.names.now c.args.split.now c.loop-place.place c.index-names-place.result c.loop-place-test.true c.index-names-place.is c.loop-place.invariant c.if-split-place.true
    ∙ ap (λ (r : LayRefusal). Some r) (sym c.in_ok-group_split.ensures)

pub loop-place-preserved : goal.loop-place-preserved
loop-place-preserved c =
    marks-go-on c.args.names.now c.args.split.now c.loop-place.place c.index-names-place.result c.loop-place-test.true c.index-names-place.is c.loop-place.invariant c.if-split-place.false
