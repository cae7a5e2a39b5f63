use Rattle.std.proofs.Common.{length}
use Rattle.omf_model.specs.Items.{pub_of}
use Rattle.omf_model.specs.ReadNames.{pub_at}
use Rattle.omf_names.proofs.ListRead.{SoFar}
use Rattle.omf_names.proofs.PublicsRead.{pubs, with_pubs}
use Rattle.omf_names.proofs.publics.pubdef.Given as goal

abbrev pub invariant-publics : goal.invariant-publics
invariant-publics l = SoFar (pub_at l.wide) (pub_of l.local l.seg) pubs with_pubs l.initial.fields l.fn.into l.into l.fields

abbrev pub decreases-publics : goal.decreases-publics
decreases-publics l = length l.fields.left
