use Rattle.std.proofs.Common.{◌≡◌, ◌-◌, length, Some, slice_get}
use Rattle.lx_types.specs.declared.fix.Fix.{Fix}
use Rattle.lx_fixrec.proofs.Beginning.{Gathered}
use Rattle.lx_fixrec.proofs.writer.gather.Given as goal

-- the offsets so far
abbrev pub invariant-listed : goal.invariant-listed
invariant-listed l = (f : Fix) → slice_get l.sources l.place ≡ Some f → Gathered l.sources f l.place l.next l.offsets.items

abbrev pub decreases-listed : goal.decreases-listed
decreases-listed l = 255 - length l.offsets.items
