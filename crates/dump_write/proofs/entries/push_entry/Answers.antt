use Rattle.std.proofs.lemmas.Result.{on_ok_weaker}
use Rattle.dump_write.proofs.LinesPushed.{entry-pushed, some-head}
use Rattle.dump_write.proofs.entries.push_entry.Goals as goal

pub returns : goal.returns
returns c =
    on_ok_weaker c.push_head.result
    (entry-pushed c.args.out.now.items c.push_leading.new.out.items c.push_head.new.out.items c.args.entry.now c.in_ok-push_leading.ensures
    (some-head c.args.entry.now.1))
    c.push_head.ensures
