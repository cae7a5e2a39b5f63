use Rattle.std.proofs.Common.{length}
use Rattle.omf_model.specs.ReadAfter.{contents_at}
use Rattle.omf_model.specs.Items.{ext_of}
use Rattle.omf_model.specs.ReadNames.{ext_at}
use Rattle.omf_names.proofs.ListRead.{SoFar}
use Rattle.omf_names.proofs.ExternalsRead.{exts, with_exts}
use Rattle.omf_names.proofs.externals.extdef.Given as goal

abbrev pub invariant-externals : goal.invariant-externals
invariant-externals l = SoFar ext_at (ext_of l.local) exts with_exts (contents_at l.rec.at l.rec.body.now) l.fn.into l.into l.fields

abbrev pub decreases-externals : goal.decreases-externals
decreases-externals l = length l.fields.left
