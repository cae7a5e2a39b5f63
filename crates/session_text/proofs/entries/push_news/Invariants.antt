use Rattle.std.proofs.Common.{◌≡◌, ◌++◌, drop}
use Rattle.std.specs.List.{flat_map}
use Rattle.session_model.specs.Transcript.{new_line}
use Rattle.session_text.proofs.entries.push_news.Given as goal

abbrev pub invariant-loop-one : goal.invariant-loop-one
invariant-loop-one l = l.out.items ++ flat_map (new_line l.lib) (drop l.one-index l.fresh) ≡ l.initial.out.items ++ flat_map (new_line l.lib) l.fresh
