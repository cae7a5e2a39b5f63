use Rattle.seg_parts.proofs.ObjectNames.{object-more}
use Rattle.seg_parts.proofs.objects.object_places.Goals as goal

pub loop-object-preserved : goal.loop-object-preserved
loop-object-preserved c =
    object-more c.args.objects.now c.loop-object.names.keys c.insert_full.new.self.keys c.loop-object.object-index _ c.loop-object.found.items c.push.new.self.items c.in_ok-insert_full.field-0.0
    c.loop-object-test.true c.loop-object.invariant c.in_ok-insert_full.ensures.keys c.in_ok-insert_full.ensures.index c.in_ok-push.ensures.items
