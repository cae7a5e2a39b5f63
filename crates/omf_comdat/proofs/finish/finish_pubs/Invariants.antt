use Rattle.std.proofs.Common.{◌≡◌, ◌-◌, length}
use Rattle.omf_model.specs.Finished as done
use Rattle.omf_comdat.proofs.Mapped.{mapped}
use Rattle.omf_comdat.proofs.finish.finish_pubs.Given as goal

abbrev pub invariant-pubs : goal.invariant-pubs
invariant-pubs l = l.all.items ≡ mapped (done.public_for l.segs) l.next l.fn.pubs

abbrev pub decreases-pubs : goal.decreases-pubs
decreases-pubs l = length l.fn.pubs - l.next
