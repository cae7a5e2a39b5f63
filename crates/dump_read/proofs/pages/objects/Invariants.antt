use Rattle.std.proofs.Common.{◌≡◌, length}
use Rattle.std.specs.Prelude.{codes}
use Rattle.dump_model.specs.Bounds.{IsObject}
use Rattle.dump_model.specs.Dumps.{object_lines}
use Rattle.dump_read.specs.Lists.{object_opens}
use Rattle.dump_read.specs.Sequences.{StarSoFar, reader_size}
use Rattle.dump_read.proofs.pages.objects.Given as goal

abbrev pub invariant-loop-alloc : goal.invariant-loop-alloc
invariant-loop-alloc l =
    (l.number ≡ length l.objects.items)
    × StarSoFar object_lines IsObject object_opens (codes "object ") 1 l.objects.items l.initial.reader l.reader

abbrev pub decreases-loop-alloc : goal.decreases-loop-alloc
decreases-loop-alloc l = reader_size l.reader
