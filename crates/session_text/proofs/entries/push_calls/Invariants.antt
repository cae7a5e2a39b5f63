use Rattle.std.proofs.Common.{◌≡◌, ◌++◌, drop}
use Rattle.std.specs.List.{flat_map}
use Rattle.session_model.specs.Transcript.{call_line}
use Rattle.session_text.proofs.entries.push_calls.Given as goal

abbrev pub invariant-loop-call : goal.invariant-loop-call
invariant-loop-call l = l.out.items ++ flat_map (call_line l.lib) (drop l.call-index l.calls) ≡ l.initial.out.items ++ flat_map (call_line l.lib) l.calls
