use Rattle.std.proofs.Common.{◌≡◌, ◌++◌, drop}
use Rattle.std.specs.List.{flat_map}
use Rattle.session_model.specs.Spelling.{command_line}
use Rattle.session_text.proofs.sessions.push_commands.Given as goal

abbrev pub invariant-loop-command : goal.invariant-loop-command
invariant-loop-command l = l.out.items ++ flat_map command_line (drop l.command-index l.commands) ≡ l.initial.out.items ++ flat_map command_line l.commands
