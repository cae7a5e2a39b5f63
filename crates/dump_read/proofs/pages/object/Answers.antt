use Rattle.dump_read.proofs.Elements.{object-reads-whole}
use Rattle.dump_read.proofs.pages.object.Goals as goal

pub returns : goal.returns
returns c =
    object-reads-whole c.args.number c.object_head-head.result _ c.args.reader.now c.object_head-head.new.reader c.pages.new.reader c.object_head-head.ensures
    c.in_ok-pages.ensures
