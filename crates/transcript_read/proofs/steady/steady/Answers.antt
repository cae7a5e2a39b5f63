use Rattle.load_model.specs.declared.commands.Command.TheVariants as commands
use Rattle.load_model.specs.declared.commands.Reply.TheVariants as replies
use Rattle.session_model.specs.declared.sessions.Line.{Line}
use Rattle.check_model.specs.Told.{IsLine}
use Rattle.transcript_read.proofs.Chain.{one_more, tells}
use Rattle.transcript_read.proofs.CommandLaws.{line_with, no_command, no_reply, with_reply}
use Rattle.transcript_read.proofs.steady.steady.Goals as goal

pub returns-in_default : goal.returns-in_default
returns-in_default c =
    let v : Line = line_with c.count-front.result commands.Exit replies.Fine in
    tells (one_more v (λ _. tt) c.known.ensures
    (one_more v (λ _. tt) c.known-2.ensures
    (one_more v (λ _. tt) c.known-3.ensures
    (one_more v (λ l. l.front) c.count-front.ensures
    (no_command c.count-front.result c.in_ok-command.field-0 _ _ c.in_ok-command.ensures c.in_default.is)))))
    IsLine (λ l h. record { front = h.1.1.1.0; said = h.1.1.1.1.0; reply = h.1.1.1.1.1 }) (λ l h. (tt, (tt, (tt, (h.front, (h.said, h.reply))))))

pub returns-in_default-2 : goal.returns-in_default-2
returns-in_default-2 c =
    let v : Line = line_with c.count-front.result c.in-Some.command replies.Fine in
    tells (one_more v (λ _. tt) c.known.ensures
    (one_more v (λ _. tt) c.known-2.ensures
    (one_more v (λ _. tt) c.known-3.ensures
    (one_more v (λ l. l.front) c.count-front.ensures
    (no_reply c.count-front.result c.in-Some.command c.in_ok-command.field-0 c.in_ok-reply.field-0 _ _ c.in_ok-command.ensures c.in-Some.is c.in_ok-reply.ensures c.in_default-2.is)))))
    IsLine (λ l h. record { front = h.1.1.1.0; said = h.1.1.1.1.0; reply = h.1.1.1.1.1 }) (λ l h. (tt, (tt, (tt, (h.front, (h.said, h.reply))))))

pub returns : goal.returns
returns c =
    let v : Line = line_with c.count-front.result c.in-Some.command c.in-Some-2.reply in
    tells (one_more v (λ _. tt) c.known.ensures
    (one_more v (λ _. tt) c.known-2.ensures
    (one_more v (λ _. tt) c.known-3.ensures
    (one_more v (λ l. l.front) c.count-front.ensures
    (with_reply c.count-front.result c.in-Some.command c.in-Some-2.reply c.in_ok-command.field-0 c.in_ok-reply.field-0 _ _ c.in_ok-command.ensures c.in-Some.is c.in_ok-reply.ensures c.in-Some-2.is)))))
    IsLine (λ l h. record { front = h.1.1.1.0; said = h.1.1.1.1.0; reply = h.1.1.1.1.1 }) (λ l h. (tt, (tt, (tt, (h.front, (h.said, h.reply))))))
