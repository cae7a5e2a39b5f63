use Rattle.std.specs.Prelude.{codes}
use Rattle.dump_model.specs.Bounds.{IsEntry}
use Rattle.dump_read.specs.Lists.{numbered_entry}
use Rattle.dump_read.specs.Taken.{shut}
use Rattle.dump_read.specs.Sequences.{StarSoFar, reader_size}
use Rattle.dump_read.proofs.entries.entries.Given as goal

abbrev pub invariant-loop-entries : goal.invariant-loop-entries
invariant-loop-entries l =
    StarSoFar numbered_entry IsEntry shut (codes "entry ") 1 l.entries.items l.initial.reader l.reader

abbrev pub decreases-loop-entries : goal.decreases-loop-entries
decreases-loop-entries l = reader_size l.reader
