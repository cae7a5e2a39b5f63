use Rattle.std.proofs.Common.{◌≡◌, length, ◌≤◌, ◌+◌}
use Rattle.obj_types.specs.declared.limits.TheConstants.{MAX_DATA}
use Rattle.omf_data.proofs.Measured.{total_at}
use Rattle.omf_data.proofs.measure.measured.Given as goal

abbrev pub invariant-all : goal.invariant-all
invariant-all l = (total_at l.wide l.len l.fields ≡ total_at l.wide 0 l.initial.fields) × (l.len ≤ MAX_DATA + 1)

abbrev pub decreases-all : goal.decreases-all
decreases-all l = length l.fields.left
