use Rattle.std.proofs.Common.{◌≡◌, ◌++◌, drop}
use Rattle.std.specs.List.{flat_map}
use Rattle.session_model.specs.Transcript.{gone_line}
use Rattle.session_text.proofs.entries.push_leavers.Given as goal

abbrev pub invariant-loop-one : goal.invariant-loop-one
invariant-loop-one l = l.out.items ++ flat_map (gone_line l.lib) (drop l.one-index l.gone) ≡ l.initial.out.items ++ flat_map (gone_line l.lib) l.gone
