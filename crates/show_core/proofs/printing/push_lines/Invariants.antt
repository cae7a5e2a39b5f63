use Rattle.std.proofs.Common.{◌≡◌, ◌++◌, drop}
use Rattle.std.specs.List.{flat_map}
use Rattle.show_model.specs.Outlines.{line_text}
use Rattle.show_core.proofs.printing.push_lines.Given as goal

abbrev pub invariant-loop-line : goal.invariant-loop-line
invariant-loop-line l = l.out.items ++ flat_map line_text (drop l.line-index l.lines) ≡ l.initial.out.items ++ flat_map line_text l.lines
