use Rattle.std.proofs.Common.{◌≡◌, ◌++◌, length}
use Rattle.std.specs.List.{flat_map}
use Rattle.session_model.specs.Kept.{modules_in}
use Rattle.session_model.specs.Spelling.{module_line}
use Rattle.session_text.proofs.sessions.push_modules.Given as goal

abbrev pub invariant-loop-cut : goal.invariant-loop-cut
invariant-loop-cut l = l.out.items ++ flat_map module_line (modules_in l.left) ≡ l.initial.out.items ++ flat_map module_line l.modules

abbrev pub decreases-loop-cut : goal.decreases-loop-cut
decreases-loop-cut l = length l.left
