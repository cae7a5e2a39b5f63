use Rattle.std.proofs.Common.{◌≡◌, length}
use Rattle.omf_fields.specs.Onto.{onto}
use Rattle.omf_model.specs.ReadModule.{modules_at}
use Rattle.omf_files.proofs.libraries.modules.Given as goal

abbrev pub invariant-modules : goal.invariant-modules
invariant-modules l = onto l.modules (modules_at l.size l.cur) ≡ modules_at l.size l.fn.cur

abbrev pub decreases-modules : goal.decreases-modules
decreases-modules l = length l.cur.left
