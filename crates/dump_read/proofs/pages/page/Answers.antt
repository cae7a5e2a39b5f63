use Rattle.dump_read.proofs.Elements.{page-reads-whole}
use Rattle.dump_read.proofs.pages.page.Goals as goal

pub returns : goal.returns
returns c =
    page-reads-whole c.args.object c.args.page c.page_head-head.result _ c.args.reader.now c.page_head-head.new.reader c.fixes.new.reader c.page_head-head.ensures
    c.in_ok-fixes.ensures
