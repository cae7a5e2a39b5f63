use Rattle.std.proofs.Common.{◌≡◌, ◌-◌, ◌≤◌, ◌+◌}
use Rattle.obj_types.specs.declared.limits.TheConstants.{MAX_DATA}
use Rattle.omf_data.proofs.Measured.{lens_at}
use Rattle.omf_data.proofs.measure.+measured_block.Given as goal

abbrev pub decreases-measured_block : goal.decreases-measured_block
decreases-measured_block l = l.left

abbrev pub invariant-inner : goal.invariant-inner
invariant-inner l = (lens_at (l.left - 1) l.wide l.more l.inner l.fields ≡ lens_at (l.left - 1) l.wide l.count 0 l.initial.fields) × (l.inner ≤ MAX_DATA + 1)

abbrev pub decreases-inner : goal.decreases-inner
decreases-inner l = l.more
