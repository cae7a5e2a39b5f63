use Rattle.memory_core.proofs.More.{page_more}
use Rattle.memory_core.proofs.objects.pages_held.Goals as goal

pub loop-page-preserved : goal.loop-page-preserved
loop-page-preserved g c =
    page_more c.args.at.now.pages c.args.object c.loop-page.page c.loop-page.held c.push.new.self c.in_ok-page_held.field-0 c.loop-page.invariant c.in_ok-page_held.ensures c.in_ok-push.ensures
