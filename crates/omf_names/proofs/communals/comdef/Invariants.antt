use Rattle.std.proofs.Common.{length}
use Rattle.omf_model.specs.ReadAfter.{contents_at}
use Rattle.omf_model.specs.Items.{com_of}
use Rattle.omf_model.specs.ReadNames.{com_at}
use Rattle.omf_names.proofs.ListRead.{SoFar}
use Rattle.omf_names.proofs.ExternalsRead.{exts, with_exts}
use Rattle.omf_names.proofs.communals.comdef.Given as goal

abbrev pub invariant-communals : goal.invariant-communals
invariant-communals l = SoFar com_at com_of exts with_exts (contents_at l.rec.at l.rec.body.now) l.fn.into l.into l.fields

abbrev pub decreases-communals : goal.decreases-communals
decreases-communals l = length l.fields.left
