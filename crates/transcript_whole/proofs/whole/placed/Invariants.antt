use Rattle.std.proofs.Common.{◌≡◌, ◌++◌, map, take, drop}
use Rattle.transcript_whole.specs.Drafts.{with_place}
use Rattle.transcript_whole.proofs.whole.placed.Given as goal

abbrev pub invariant-loop-entry : goal.invariant-loop-entry
invariant-loop-entry l =
    l.entry-items ≡ map (with_place l.steady) (take l.entry-index l.fn.history.items) ++ drop l.entry-index l.fn.history.items
