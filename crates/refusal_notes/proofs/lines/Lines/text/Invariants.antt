use Rattle.std.proofs.Common.{◌≡◌, take, string_bytes}
use Rattle.std.specs.List.{flat_map}
use Rattle.refusal_notes.specs.Lines.{marked_line}
use Rattle.refusal_notes.proofs.lines.Lines.text.Given as goal

abbrev pub invariant-loop-line : goal.invariant-loop-line
invariant-loop-line l =
    string_bytes l.text ≡ flat_map (λ line. marked_line l.mark (string_bytes line)) (take l.line-index l.line-items)
