use Rattle.std.proofs.Common.{◌≡◌, ◌++◌, drop}
use Rattle.std.specs.List.{flat_map}
use Rattle.session_model.specs.Spelling.{script_lines}
use Rattle.session_text.proofs.sessions.push_scripts.Given as goal

abbrev pub invariant-loop-script : goal.invariant-loop-script
invariant-loop-script l = l.out.items ++ flat_map script_lines (drop l.script-index l.scripts) ≡ l.initial.out.items ++ flat_map script_lines l.scripts
