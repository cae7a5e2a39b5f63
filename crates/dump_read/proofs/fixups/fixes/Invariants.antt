use Rattle.std.specs.Prelude.{codes}
use Rattle.dump_model.specs.Bounds.{IsFix}
use Rattle.dump_read.specs.Lists.{numbered_fix}
use Rattle.dump_read.specs.Taken.{shut}
use Rattle.dump_read.specs.Sequences.{StarSoFar, reader_size}
use Rattle.dump_read.proofs.fixups.fixes.Given as goal

abbrev pub invariant-loop-fixes : goal.invariant-loop-fixes
invariant-loop-fixes l =
    StarSoFar (numbered_fix l.object l.page) IsFix shut (codes "fix ") 0 l.fixes.items l.initial.reader l.reader

abbrev pub decreases-loop-fixes : goal.decreases-loop-fixes
decreases-loop-fixes l = reader_size l.reader
