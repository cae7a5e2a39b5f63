use Rattle.std.proofs.Common.{◌≤◌, ◌-◌, length, drop}
use Rattle.lx_write.proofs.PagesAdded.{Left}
use Rattle.lx_write.proofs.pages.Pages.add_object.Given as goal

abbrev pub invariant-loop-at : goal.invariant-loop-at
invariant-loop-at l = record {
  within : l.at ≤ length l.bytes;
  left : Left l.initial.self l.self (drop l.at l.bytes) l.bytes;
}

abbrev pub decreases-loop-at : goal.decreases-loop-at
decreases-loop-at l = length l.bytes - l.at
