use Rattle.std.specs.Prelude.{codes}
use Rattle.dump_model.specs.Bounds.{IsNamed}
use Rattle.dump_read.specs.Lists.{numbered_name}
use Rattle.dump_read.specs.Taken.{shut}
use Rattle.dump_read.specs.Sequences.{StarSoFar, reader_size}
use Rattle.dump_read.proofs.entries.names.Given as goal

abbrev pub invariant-loop-alloc : goal.invariant-loop-alloc
invariant-loop-alloc l =
    StarSoFar numbered_name IsNamed shut (codes "name ") 1 l.names.items l.initial.reader l.reader

abbrev pub decreases-loop-alloc : goal.decreases-loop-alloc
decreases-loop-alloc l = reader_size l.reader
