use Rattle.std.proofs.Common.{map, sym, ap, ◌++◌, ◌∙◌}
use Rattle.line_words.specs.Words.{word_text}
use Rattle.session_model.specs.Text.{words}
use Rattle.transcript_read.specs.Commands.{command_length}
use Rattle.transcript_read.proofs.CommandLaws.{part_few, part_told, if_ok_map}
use Rattle.transcript_read.proofs.commands.command.Goals as goal

pub returns-then-has_stopped : goal.returns-then-has_stopped
returns-then-has_stopped c =
    part_few c.command_length-count.result (map word_text c.in_ok-taken.taken.items) _ _ (c.command_length-count.ensures ∙ ap command_length c.next.ensures) c.in_ok-taken.ensures
    (sym c.has_stopped.ensures ∙ c.if-has_stopped.true)

pub returns : goal.returns
returns c =
    let joined = c.deref-2.ensures.value ∙ c.in_ok-push_joined.ensures ∙ ap (λ xs. xs ++ words (map word_text c.deref.result.now)) c.new-text.ensures.items
    ∙ ap (λ xs. words (map word_text xs)) c.deref.ensures.value in
    if_ok_map c.command_of.result _ _ c.command_of.ensures
    (λ told it. part_told c.command_length-count.result (map word_text c.in_ok-taken.taken.items) c.deref-2.result.now told _ _ (c.command_length-count.ensures ∙ ap command_length c.next.ensures)
    c.in_ok-taken.ensures (sym c.has_stopped.ensures ∙ c.if-has_stopped.false) joined it)
