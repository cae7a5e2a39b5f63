use Rattle.std.proofs.Common.{◌≡◌, ◌++◌, drop}
use Rattle.std.specs.List.{flat_map}
use Rattle.session_model.specs.Transcript.{line_text}
use Rattle.session_text.proofs.lines.push_steadies.Given as goal

abbrev pub invariant-loop-line : goal.invariant-loop-line
invariant-loop-line l = l.out.items ++ flat_map line_text (drop l.line-index l.lines) ≡ l.initial.out.items ++ flat_map line_text l.lines
