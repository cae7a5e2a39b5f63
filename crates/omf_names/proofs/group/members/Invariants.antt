use Rattle.std.proofs.Common.{◌≡◌, length}
use Rattle.omf_fields.specs.Fields.{list_at}
use Rattle.omf_fields.specs.Onto.{onto}
use Rattle.omf_model.specs.ReadNames.{member_at}
use Rattle.omf_names.proofs.group.members.Given as goal

abbrev pub invariant-members : goal.invariant-members
invariant-members l = onto l.members (list_at (member_at l.flat l.before) l.fields) ≡ list_at (member_at l.flat l.before) l.fn.fields

abbrev pub decreases-members : goal.decreases-members
decreases-members l = length l.fields.left
