use Rattle.std.proofs.Common.{◌≡◌, ◌++◌, drop}
use Rattle.std.specs.List.{flat_map}
use Rattle.session_model.specs.Transcript.{script_text}
use Rattle.session_text.proofs.lines.push_scripts.Given as goal

abbrev pub invariant-loop-script : goal.invariant-loop-script
invariant-loop-script l = l.out.items ++ flat_map script_text (drop l.script-index l.steady) ≡ l.initial.out.items ++ flat_map script_text l.steady
