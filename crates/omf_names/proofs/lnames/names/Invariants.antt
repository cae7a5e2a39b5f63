use Rattle.std.proofs.Common.{length}
use Rattle.omf_model.specs.ReadAfter.{contents_at}
use Rattle.omf_names.proofs.NamesRead.{NamesSoFar}
use Rattle.omf_names.proofs.lnames.names.Given as goal

abbrev pub invariant-names : goal.invariant-names
invariant-names l = NamesSoFar (contents_at l.rec.at l.rec.body.now) l.fn.into l.into l.fields

abbrev pub decreases-names : goal.decreases-names
decreases-names l = length l.fields.left
