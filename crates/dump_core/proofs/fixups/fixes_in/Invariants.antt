use Rattle.std.proofs.Common.{◌≡◌, ◌++◌}
use Rattle.lx_fixrec.specs.Left.{left_in, count_of}
use Rattle.dump_core.specs.Entries.{fixes_left}
use Rattle.dump_core.proofs.fixups.fixes_in.Given as goal

abbrev pub invariant-loop-source : goal.invariant-loop-source
invariant-loop-source l = l.fixes.items ++ fixes_left l.sources ≡ fixes_left (left_in l.at l.bytes)

abbrev pub decreases-loop-source : goal.decreases-loop-source
decreases-loop-source l = count_of l.sources
