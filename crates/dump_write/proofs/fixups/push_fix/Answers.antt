use Rattle.std.proofs.lemmas.Result.{on_ok_weaker}
use Rattle.dump_write.proofs.LinesPushed.{fix-pushed}
use Rattle.dump_write.proofs.fixups.push_fix.Goals as goal

pub returns : goal.returns
returns c =
    on_ok_weaker c.push_line.result
    (fix-pushed c.args.out.now.items c.push_leading.new.out.items c.push_offset.new.out.items c.push_source.new.out.items c.push_alias.new.out.items c.push_target.new.out.items
    c.push_line.new.out.items c.args.at.object c.args.at.page c.args.fix.now c.in_ok-push_leading.ensures c.in_ok-push_offset.ensures c.in_ok-push_source.ensures
    c.in_ok-push_alias.ensures c.in_ok-push_target.ensures)
    c.push_line.ensures
