use Rattle.std.proofs.Common.{◌≡◌, ◌+◌, ◌++◌, map, drop}
use Rattle.check_core.specs.ToldItems.{line_shown}
use Rattle.check_core.proofs.MergedItems.{lines_from}
use Rattle.check_core.proofs.lines.push_script.Given as goal

abbrev pub invariant-loop-place : goal.invariant-loop-place
invariant-loop-place l =
    map line_shown l.all.items ++ lines_from l.pid (l.first + l.place) l.low (drop l.place l.lines) ≡ map line_shown l.initial.all.items ++ lines_from l.pid l.first 0 l.lines
