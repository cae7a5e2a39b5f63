use Rattle.std.proofs.Common.{◌≡◌, length}
use Rattle.std.specs.Prelude.{codes}
use Rattle.dump_model.specs.Bounds.{IsListedName}
use Rattle.dump_model.specs.Dumps.{numbered_import_line}
use Rattle.dump_read.specs.Taken.{shut}
use Rattle.dump_read.specs.Sequences.{StarSoFar, reader_size}
use Rattle.dump_read.proofs.entries.imports.Given as goal

abbrev pub invariant-loop-alloc : goal.invariant-loop-alloc
invariant-loop-alloc l =
    (l.number ≡ length l.names.items)
    × StarSoFar numbered_import_line IsListedName shut (codes "import ") 1 l.names.items l.initial.reader l.reader

abbrev pub decreases-loop-alloc : goal.decreases-loop-alloc
decreases-loop-alloc l = reader_size l.reader
