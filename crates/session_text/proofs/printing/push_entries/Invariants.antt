use Rattle.std.proofs.Common.{◌≡◌, ◌+◌, ◌++◌, drop}
use Rattle.std.specs.List.{flat_map, enumerate_from}
use Rattle.session_model.specs.Merging.{numbers_of}
use Rattle.session_model.specs.Transcript.{entry_text}
use Rattle.session_text.proofs.printing.push_entries.Given as goal

abbrev pub invariant-loop-entry : goal.invariant-loop-entry
invariant-loop-entry l =
    (l.number ≡ l.initial.before + l.entry-index)
    × (l.out.items ++ flat_map (entry_text l.lib (numbers_of l.steady)) (enumerate_from (l.number + 1) (drop l.entry-index l.history))
    ≡ l.initial.out.items ++ flat_map (entry_text l.lib (numbers_of l.steady)) (enumerate_from (l.initial.before + 1) l.history))
