use Rattle.std.proofs.Common.{◌≡◌}
use Rattle.omf_data.specs.Expanding.{skipped_at}
use Rattle.omf_data.proofs.Expanded.{passed_at}
use Rattle.omf_data.proofs.expand.skip_blocks.Given as goal

abbrev pub invariant-skipped : goal.invariant-skipped
invariant-skipped l = passed_at l.left l.wide l.more l.count l.fields ≡ skipped_at l.left l.wide l.count l.initial.fields

abbrev pub decreases-skipped : goal.decreases-skipped
decreases-skipped l = l.more
