use Rattle.std.proofs.Common.{length}
use Rattle.omf_data.specs.Marks.{AreMarks}
use Rattle.omf_model.specs.ReadAfter.{contents_at}
use Rattle.omf_model.specs.ReadModule.{is_wide}
use Rattle.omf_fix.proofs.Fields.{FieldsSoFar}
use Rattle.omf_fix.proofs.fixupp.fixups_marked.Given as goal

abbrev pub invariant-fields : goal.invariant-fields
invariant-fields l = record {
  marks : AreMarks l.marks l.into;
  read : FieldsSoFar (is_wide l.rec.ty) l.rec.at l.fixupp.have (contents_at l.rec.at l.rec.body.now) l.fn.into l.into l.fields;
}

abbrev pub decreases-fields : goal.decreases-fields
decreases-fields l = length l.fields.left
