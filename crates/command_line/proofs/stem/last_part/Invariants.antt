use Rattle.std.proofs.Common.{◌≤◌, length}
use Rattle.command_line.proofs.Parts.{NoneFrom}
use Rattle.command_line.proofs.stem.last_part.Given as goal

abbrev pub invariant-loop-start : goal.invariant-loop-start
invariant-loop-start l = record {
  within : l.start ≤ length l.path;
  none : NoneFrom 47 l.start l.path;
}

abbrev pub decreases-loop-start : goal.decreases-loop-start
decreases-loop-start l = l.start
