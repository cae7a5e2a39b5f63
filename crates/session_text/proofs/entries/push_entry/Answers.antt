use Rattle.std.proofs.lemmas.Result.{on_ok_weaker}
use Rattle.session_text.proofs.SpacedLaws.{entry-pushed}
use Rattle.session_text.proofs.entries.push_entry.Goals as goal

pub returns : goal.returns
returns c =
    on_ok_weaker c.push_deed_lines.result
    (entry-pushed c.args.out.now.items c.push_joined.new.out.items c.push_deed_words.new.out.items c.push.new.self.items c.push_deed_lines.new.out.items
    c.args.lib.now c.args.steady.now c.args.number c.script_number-pid.result c.args.entry.now c.script_number-pid.ensures
    c.in_ok-push_joined.ensures c.in_ok-push_deed_words.ensures c.in_ok-push.ensures.items)
    c.push_deed_lines.ensures
