use Rattle.std.proofs.Common.{◌≡◌, ◌≤◌, length, take}
use Rattle.lx_types.specs.declared.object.TheConstants.{PAGE_SIZE}
use Rattle.lx_model.specs.Iterated.{group_at, expansion}
use Rattle.lx_model.specs.Reading.{many}
use Rattle.lx_iter.specs.Expansion.{after_given}
use Rattle.lx_iter.proofs.expansion.expand.Given as goal

-- the bytes so far and those of the groups that are left are all
abbrev pub invariant-loop-group : goal.invariant-loop-group
invariant-loop-group l = record {
  room : l.given ≤ PAGE_SIZE;
  kept : after_given (take l.given l.into) (many group_at l.given l.fields) ≡ expansion l.bytes;
}

abbrev pub decreases-loop-group : goal.decreases-loop-group
decreases-loop-group l = length l.fields.left
