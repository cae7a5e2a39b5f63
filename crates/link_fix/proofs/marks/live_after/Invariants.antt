use Rattle.std.proofs.Common.{drop}
use Rattle.link_fix.specs.Marks.{AreMarked}
use Rattle.link_fix.proofs.MarkedBytes.{LiveAfter}
use Rattle.link_fix.proofs.marks.live_after.Given as goal

abbrev pub invariant-fixups : goal.invariant-fixups
invariant-fixups l = record {
  marked : AreMarked l.marks (drop l.left l.initial.fixups);
  after : LiveAfter l.initial.fixups l.fixups l.left l.first;
}

abbrev pub decreases-fixups : goal.decreases-fixups
decreases-fixups l = l.left
