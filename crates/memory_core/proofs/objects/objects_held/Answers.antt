use Rattle.memory_core.proofs.More.{object_more}
use Rattle.memory_core.proofs.objects.objects_held.Goals as goal

pub loop-before-preserved : goal.loop-before-preserved
loop-before-preserved g c =
    object_more c.args.at.now.pages c.args.at.now.bases.now c.loop-before.before c.loop-before.held c.push.new.self c.in_ok-object_held.field-0 c.loop-before.invariant c.in_ok-object_held.ensures c.in_ok-push.ensures
