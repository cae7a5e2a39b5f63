use Rattle.dump_core.proofs.ListedLaws.{page-listed}
use Rattle.dump_core.proofs.listed.listed_page.Goals as goal

pub returns : goal.returns
returns c =
    page-listed c.args.m.now c.args.id c.counted_page-head.result c.counted_span-from.result _ c.counted_page-head.ensures.head
    c.counted_span-from.ensures.span c.in_ok-fixes.ensures
