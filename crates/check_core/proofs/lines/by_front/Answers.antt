use Rattle.std.proofs.Common.{◌∙◌, map}
use Rattle.check_core.specs.ToldItems.{line_shown}
use Rattle.check_core.proofs.MergedItems.{front_more}
use Rattle.check_core.proofs.lines.by_front.Goals as goal

pub loop-told-preserved : goal.loop-told-preserved
loop-told-preserved c = (
  c.in_ok-file_line.ensures.long ∙ c.loop-told.invariant.0,
  front_more line_shown (map (λ v. map line_shown v.items) c.loop-told.lists.items) (map (λ v. map line_shown v.items) c.file_line.new.lists.items) _ c.args.count c.loop-told.told-index c.args.all.now c.told-item.result
      c.loop-told-test.true c.told-item.is c.loop-told.invariant.0 c.loop-told.invariant.1 c.in_ok-file_line.ensures.each,
)
