use Rattle.std.proofs.Common.{◌≤◌, ◌*◌, length, ◌++◌, List, ℕ, ◌∙◌, ap, rules}
use Rattle.answer_model.specs.ImageText.{line_of}
use Rattle.file_commands.proofs.Lines.{lines_after, line_piece}
use Rattle.file_commands.proofs.text.push_image.Goals as goal

pub loop-number-preserved : goal.loop-number-preserved
loop-number-preserved c =
    let number = c.loop-number.number in
    let bytes = c.args.bytes.now in
    let within : 16 * number ≤ length bytes = search rules in
    c.in_ok-push_line.ensures
    ∙ ap (λ (l : List ℕ). c.loop-number.text.items ++ l) (line_piece c.args.base number c.min-end.result bytes c.min-end.ensures within)
    ∙ lines_after (line_of c.args.base bytes) number c.args.text.now.items c.loop-number.text.items c.loop-number.invariant
