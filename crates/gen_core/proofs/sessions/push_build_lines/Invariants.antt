use Rattle.std.proofs.Common.{◌≡◌, ◌++◌, map}
use Rattle.std.specs.List.{flat_map, range_with_len}
use Rattle.session_model.specs.Spelling.{module_line}
use Rattle.gen_model.specs.Sessions.{build_line}
use Rattle.gen_core.proofs.sessions.push_build_lines.Given as goal

abbrev pub invariant-loop-before : goal.invariant-loop-before
invariant-loop-before l = l.out.items ≡ l.initial.out.items ++ flat_map module_line (map (build_line l.prefix) (range_with_len 1 l.before))
