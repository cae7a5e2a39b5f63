use Rattle.std.proofs.Common.{◌++◌, ap, ◌∙◌}
use Rattle.std.specs.List.{flat_map, enumerate_from}
use Rattle.obj_types.specs.declared.object.Seg.{Seg}
use Rattle.std.proofs.Common.{List}
use Rattle.map_core.specs.Places.{segment_text, module_text}
use Rattle.map_core.proofs.Loops.{lent-pushed}
use Rattle.map_core.proofs.contributions.push_modules.Goals as goal

pub loop-place-preserved : goal.loop-place-preserved
loop-place-preserved c =
    lent-pushed (module_text c.args.lay.now) 1 c.in_ok-count.field-0 c.args.modules.now c.loop-place.place c.index-modules-place.result c.args.out.now.items
    c.loop-place.out.items c.push_segs.new.out.items c.loop-place-test.true c.index-modules-place.is c.in_ok-count.ensures c.loop-place.invariant
    (c.in_ok-push_segs.ensures ∙ ap (λ (segs : List Seg). c.loop-place.out.items ++ flat_map (segment_text c.args.lay.now c.in_ok-count.field-0) (enumerate_from 1 segs)) c.as_slice.ensures)
