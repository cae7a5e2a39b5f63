use Rattle.std.proofs.Common.{◌≡◌, ◌+◌, ◌++◌, map, drop}
use Rattle.check_model.specs.Places.{numbered_scripts, after_scripts}
use Rattle.check_core.specs.ToldItems.{line_shown, all_lines}
use Rattle.check_core.proofs.lines.all_lines.Given as goal

abbrev pub invariant-loop-place : goal.invariant-loop-place
invariant-loop-place l =
    (map line_shown l.all.items ++ all_lines (numbered_scripts (l.place + 1) l.heading (drop l.place l.steady)) ≡ all_lines (numbered_scripts 1 l.first l.steady))
    × (after_scripts l.heading (drop l.place l.steady) ≡ after_scripts l.first l.steady)
