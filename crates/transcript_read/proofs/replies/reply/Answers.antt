use Rattle.std.proofs.Common.{None, Some, subst, sym, refl}
use Rattle.load_model.specs.declared.commands.Command.TheVariants as commands
use Rattle.load_model.specs.declared.commands.Reply.TheVariants as replies
use Rattle.session_model.specs.Transcript.{reply_words}
use Rattle.check_model.specs.Told.{IsReplyTo}
use Rattle.transcript_read.specs.Words.{left_of}
use Rattle.transcript_read.specs.Taken.{Tells}
use Rattle.transcript_read.proofs.Tellings.{as_whole, no_reply_to_touch}
use Rattle.transcript_read.proofs.replies.reply.Goals as goal

pub returns-in_default-fine : goal.returns-in_default-fine
returns-in_default-fine c =
    subst (λ k. Tells reply_words (IsReplyTo k) None (left_of c.args.words)) (sym c.in-Touch.is) (no_reply_to_touch c.in-Touch.field-0 _ c.in_default.ensures c.in_default-fine.ensures)

pub returns-in-Some-address : goal.returns-in-Some-address
returns-in-Some-address c =
    subst (λ k. Tells reply_words (IsReplyTo k) (Some (replies.Address c.in-Some-address.address)) (left_of c.args.words)) (sym c.in-Query.is)
    (as_whole c.address.ensures c.in-Some-address.address c.in-Some-address.is reply_words (IsReplyTo (commands.Query c.in-Query.field-0 c.in-Query.field-1))
    (replies.Address c.in-Some-address.address) (λ h. h) refl)
