use Rattle.session_text.proofs.SpacedLaws.{steady-pushed}
use Rattle.session_text.proofs.lines.push_answer.Goals as goal

pub returns : goal.returns
returns c =
    steady-pushed c.args.out.now.items c.extend_from_slice.new.self.items c.push_joined.new.out.items c.push.new.self.items c.push_command.new.out.items
    c.push_reply.new.out.items c.push-2.new.self.items (record { front = c.args.front; command = c.args.command.now; reply = c.args.reply.now }) c.in_ok-extend_from_slice.ensures.items c.in_ok-push_joined.ensures
    c.in_ok-push.ensures.items c.in_ok-push_command.ensures c.in_ok-push_reply.ensures c.in_ok-push-2.ensures.items
